use Rattle.task_machine.proofs.Left.{begins_due}
use Rattle.task_machine.proofs.laws.begins_due.Goals as goal

pub returns : goal.returns
returns c = begins_due
