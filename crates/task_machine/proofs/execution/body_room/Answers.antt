use Rattle.task_machine.proofs.Executing.{has_room}
use Rattle.task_machine.proofs.execution.body_room.Goals as goal

pub returns : goal.returns
returns c = has_room c.args.code.now c.args.body c.keeps_rules.ensures c.requires
