use Rattle.task_deque.proofs.Balance.{steals}
use Rattle.task_deque.proofs.steal_task.Goals as goal

pub steal_as-requires-clause-takes : goal.steal_as-requires-clause-takes
steal_as-requires-clause-takes g c = steals _ _
