use Rattle.task_deque.proofs.Balance.{learns}
use Rattle.task_deque.proofs.waiting.Goals as goal

pub len_as-requires : goal.len_as-requires
len_as-requires g c = learns _ _ c.before.args.owner.now.owns
