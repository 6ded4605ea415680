use Rattle.task_deque.proofs.Balance.{takes, pops}
use Rattle.task_deque.proofs.take_task.Goals as goal

pub pop_as-requires-clause-fifo : goal.pop_as-requires-clause-fifo
pop_as-requires-clause-fifo g c = λ _. takes _ _ c.before.args.owner.now.owns

pub pop_as-requires-clause-lifo : goal.pop_as-requires-clause-lifo
pop_as-requires-clause-lifo g c = λ _. pops _ _ c.before.args.owner.now.owns
