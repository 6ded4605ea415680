use Rattle.jade_meaning.proofs.Ascent.{report_ascends}
use Rattle.jade_meaning.proofs.laws.report_ascends.Goals as goal

pub returns : goal.returns
returns c = report_ascends
