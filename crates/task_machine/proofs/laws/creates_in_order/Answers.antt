use Rattle.task_machine.proofs.Left.{gives_for_child, enters_now}
use Rattle.task_machine.proofs.laws.creates_in_order.Goals as goal

pub returns-clause-gives : goal.returns-clause-gives
returns-clause-gives c = gives_for_child

pub returns-clause-enters : goal.returns-clause-enters
returns-clause-enters c = enters_now
