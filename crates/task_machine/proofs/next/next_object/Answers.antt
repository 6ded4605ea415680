use Rattle.std.proofs.Common.{refl}
use Rattle.task_machine.proofs.Sought.{none_below}
use Rattle.task_machine.proofs.next.next_object.Goals as goal

pub next_from-requires : goal.next_from-requires
next_from-requires c = none_below _ 0 refl
