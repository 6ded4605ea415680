use Rattle.std.proofs.Common.{sym, ◌∙◌}
use Rattle.task_suspend.proofs.tries.attempt.Goals as goal

pub go_on-requires : goal.go_on-requires
go_on-requires g c = rw c.deref.ensures at (sym c.asked.ensures ∙ c.in-None.is)
