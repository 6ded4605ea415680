use Rattle.task_machine.proofs.Left.{gives_at_end, resigns}
use Rattle.task_machine.proofs.laws.ends_in_order.Goals as goal

pub returns-clause-gives : goal.returns-clause-gives
returns-clause-gives c = gives_at_end

pub returns-clause-leaves : goal.returns-clause-leaves
returns-clause-leaves c = resigns
