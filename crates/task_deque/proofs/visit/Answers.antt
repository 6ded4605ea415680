use Rattle.task_deque.proofs.Balance.{admits}
use Rattle.task_deque.proofs.visit.Goals as goal

pub pass-requires : goal.pass-requires
pass-requires g c = admits
