use Rattle.jade_meaning.proofs.Immediate.{reports_at_once}
use Rattle.jade_meaning.proofs.laws.reports_at_once.Goals as goal

pub returns : goal.returns
returns c = reports_at_once
