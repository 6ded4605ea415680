use Rattle.waiting_line.proofs.Letting.{suffices}
use Rattle.waiting_line.proofs.laws.first_suffices.Goals as goal

pub returns : goal.returns
returns c = suffices
