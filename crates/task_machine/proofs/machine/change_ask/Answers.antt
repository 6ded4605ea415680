use Rattle.std.proofs.Common.{refl}
use Rattle.task_machine.proofs.Quiet.{none_changes}
use Rattle.task_machine.proofs.machine.change_ask.Goals as goal

pub returns-else-is_drafted : goal.returns-else-is_drafted
returns-else-is_drafted c =
    λ part good. (refl, none_changes c.args.execution.now c.args.due.now part good (c.is_drafted.ensures c.if-is_drafted.false))
