use Rattle.task_machine.proofs.Standing.{due_asked}
use Rattle.task_machine.proofs.machine.take_due.Goals as goal

pub returns-in-Some-clause-asks : goal.returns-in-Some-clause-asks
returns-in-Some-clause-asks c = due_asked c.args.execution.now c.args.due.now c.in-Some.object c.take.result c.in-Some.ensures.found c.take.ensures
