use Rattle.task_machine.proofs.Beginning.{begins_child, begins_code}
use Rattle.task_machine.proofs.laws.begins_its_course.Goals as goal

pub returns-clause-child : goal.returns-clause-child
returns-clause-child c = begins_child c.children_are.ensures

pub returns-clause-code : goal.returns-clause-code
returns-clause-code c = begins_code c.root_is.ensures
