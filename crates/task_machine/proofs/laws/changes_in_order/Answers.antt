use Rattle.task_machine.proofs.Left.{changes_first, gives_for_change, shifts_now}
use Rattle.task_machine.proofs.laws.changes_in_order.Goals as goal

pub returns-clause-first : goal.returns-clause-first
returns-clause-first c = changes_first

pub returns-clause-gives : goal.returns-clause-gives
returns-clause-gives c = gives_for_change

pub returns-clause-shifts : goal.returns-clause-shifts
returns-clause-shifts c = shifts_now
