use Rattle.task_deque.proofs.Balance.{puts}
use Rattle.task_deque.proofs.put_task.Goals as goal

pub push_as-requires-clause-pushes : goal.push_as-requires-clause-pushes
push_as-requires-clause-pushes g c = puts _ _ _ c.before.args.owner.now.owns
