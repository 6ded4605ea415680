use Rattle.std.proofs.Common.{sym, ◌∙◌}
use Rattle.task_suspend.proofs.tries.try_follow.Goals as goal

pub shift-requires-clause-next : goal.shift-requires-clause-next
shift-requires-clause-next c = c.requires.shifts (sym c.any.ensures ∙ c.if-any.true)

pub leave-requires-clause-next : goal.leave-requires-clause-next
leave-requires-clause-next c = c.requires.leaves (sym c.any.ensures ∙ c.if-any.false)
