use Rattle.jade_meaning.proofs.Answering.{report_tells}
use Rattle.jade_meaning.proofs.laws.report_tells.Goals as goal

pub returns : goal.returns
returns c = report_tells
