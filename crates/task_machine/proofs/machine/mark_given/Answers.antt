use Rattle.task_machine.proofs.Quiet.{not_said}
use Rattle.task_machine.proofs.machine.mark_given.Goals as goal

pub returns-in-Changing-clause-unset : goal.returns-in-Changing-clause-unset
returns-in-Changing-clause-unset c = not_said _
