use Rattle.task_machine.proofs.Left.{starts_least, starts_own, starts_on}
use Rattle.task_machine.proofs.laws.starts_in_order.Goals as goal

pub returns-clause-least : goal.returns-clause-least
returns-clause-least c = λ due course spec h n o m. starts_least due spec course h n o m

pub returns-clause-own : goal.returns-clause-own
returns-clause-own c = λ due course spec h n o m. starts_own due spec course h n o m

pub returns-clause-on : goal.returns-clause-on
returns-clause-on c = λ due course spec h n. starts_on due spec course h n
