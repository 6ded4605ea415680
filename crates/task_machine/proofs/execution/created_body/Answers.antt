use Rattle.task_machine.specs.Executions.{body_at}
use Rattle.task_machine.proofs.Executing.{created_later, created_place, created_there}
use Rattle.task_machine.proofs.execution.created_body.Goals as goal

pub returns-clause-later : goal.returns-clause-later
returns-clause-later c =
    created_later c.args.code.now c.args.body c.args.place c.args.number c.keeps_rules.ensures c.requires.there c.requires.created

pub returns-clause-there : goal.returns-clause-there
returns-clause-there c =
    created_there c.args.code.now c.args.body c.args.place c.args.number c.keeps_rules.ensures c.requires.there c.requires.created

pub returns-clause-place : goal.returns-clause-place
returns-clause-place c = created_place (body_at c.args.code.now c.args.body).code c.args.place c.args.number c.requires.created
