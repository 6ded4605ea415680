use Rattle.task_machine.proofs.Few.{touches_few, touches_below}
use Rattle.task_machine.proofs.laws.touches_few.Goals as goal

pub returns-clause-bound : goal.returns-clause-bound
returns-clause-bound c = touches_few

pub returns-clause-below : goal.returns-clause-below
returns-clause-below c = touches_below
