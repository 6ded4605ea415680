use Rattle.task_machine.proofs.Left.{takes_least, tells_on, takes_touched}
use Rattle.task_machine.proofs.laws.takes_in_order.Goals as goal

pub returns-clause-least : goal.returns-clause-least
returns-clause-least c = λ due course spec h n o m. takes_least due spec course h n o m

pub returns-clause-on : goal.returns-clause-on
returns-clause-on c = λ due course spec h n. tells_on due spec course h n

pub returns-clause-touched : goal.returns-clause-touched
returns-clause-touched c = takes_touched
