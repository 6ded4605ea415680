use Rattle.task_translation.proofs.Bodies.{code_follows}
use Rattle.task_translation.proofs.laws.code_follows.Goals as goal

pub returns : goal.returns
returns c = code_follows
