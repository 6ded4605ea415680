use Rattle.task_deque.proofs.Balance.{begins}
use Rattle.task_deque.proofs.empty.Goals as goal

pub lifo_as-requires : goal.lifo_as-requires
lifo_as-requires g c = begins
