use Rattle.std.proofs.Common.{refl}
use Rattle.task_machine.proofs.Answering.{fresh_kept}
use Rattle.task_machine.proofs.Quiet.{not_said}
use Rattle.task_machine.proofs.Sought.{none_below}
use Rattle.task_machine.proofs.machine.begun.Goals as goal

pub invariant_of-result : goal.invariant_of-result
invariant_of-result c = record { kept = fresh_kept _ _ _ c.requires.fresh c.requires.due c.steps_left-part.ensures; done = none_below _ 0 refl; unset = not_said _ }
