use Rattle.task_machine.proofs.Telling.{tells_as_played}
use Rattle.task_machine.proofs.laws.tells_as_played.Goals as goal

pub returns : goal.returns
returns c = λ course spec h k n e fit. tells_as_played course k spec h n e fit
