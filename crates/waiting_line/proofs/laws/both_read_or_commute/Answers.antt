use Rattle.waiting_line.proofs.Letting.{one_mode}
use Rattle.waiting_line.proofs.laws.both_read_or_commute.Goals as goal

pub returns : goal.returns
returns c = one_mode
