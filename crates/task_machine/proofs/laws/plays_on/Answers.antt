use Rattle.task_machine.proofs.Asking.{plays_on, goes_on, order_there, none_there}
use Rattle.task_machine.proofs.laws.plays_on.Goals as goal

pub returns-clause-plays : goal.returns-clause-plays
returns-clause-plays c = λ m good none. plays_on m good none

pub returns-clause-pauses : goal.returns-clause-pauses
returns-clause-pauses c = λ m good none p e a real. (
  goes_on m good none p e a real,
  order_there m good none p e a,
  none_there m good none p e a,
)
