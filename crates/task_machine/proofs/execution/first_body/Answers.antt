use Rattle.task_machine.proofs.Executing.{first_there}
use Rattle.task_machine.proofs.execution.first_body.Goals as goal

pub returns : goal.returns
returns c = first_there c.args.code.now c.keeps_rules.ensures
