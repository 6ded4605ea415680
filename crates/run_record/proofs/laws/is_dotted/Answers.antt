use Rattle.run_record.proofs.Dotted.{is_dotted}
use Rattle.run_record.proofs.laws.is_dotted.Goals as goal

pub returns : goal.returns
returns c = is_dotted
