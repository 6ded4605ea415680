use Rattle.waiting_line.proofs.Letting.{first_may}
use Rattle.waiting_line.proofs.laws.first_may_too.Goals as goal

pub returns : goal.returns
returns c = first_may
