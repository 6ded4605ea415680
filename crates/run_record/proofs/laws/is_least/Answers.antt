use Rattle.run_record.proofs.Least.{is_least}
use Rattle.run_record.proofs.laws.is_least.Goals as goal

pub returns : goal.returns
returns c = is_least
