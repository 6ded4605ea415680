use Rattle.task_machine.proofs.Beginning.{begins_its_talk}
use Rattle.task_machine.proofs.laws.begins_its_talk.Goals as goal

pub returns : goal.returns
returns c = begins_its_talk
