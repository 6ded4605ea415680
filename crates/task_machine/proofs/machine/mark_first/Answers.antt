use Rattle.std.proofs.Common.{refl}
use Rattle.task_machine.proofs.Quiet.{marks_stay, not_said}
use Rattle.task_machine.proofs.machine.mark_first.Goals as goal

pub returns-then-is_drafted-clause-unset : goal.returns-then-is_drafted-clause-unset
returns-then-is_drafted-clause-unset c = not_said _

pub returns-else-is_drafted-clause-marks : goal.returns-else-is_drafted-clause-marks
returns-else-is_drafted-clause-marks c =
    marks_stay c.args.execution.now c.requires.held (c.is_drafted.ensures c.if-is_drafted.false) c.args.due.now.items c.requires.long
    (c.requires.unset.none refl)
