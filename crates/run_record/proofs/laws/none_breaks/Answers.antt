use Rattle.run_record.proofs.Same.{none_breaks}
use Rattle.run_record.proofs.laws.none_breaks.Goals as goal

pub returns : goal.returns
returns c = none_breaks
