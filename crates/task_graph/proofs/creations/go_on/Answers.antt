use Rattle.std.proofs.Common.{ap}
use Rattle.task_machine.specs.Executions.{created_by}
use Rattle.task_machine.specs.Machines.{child_of}
use Rattle.task_graph.proofs.creations.go_on.Goals as goal

pub declare-requires-clause-within : goal.declare-requires-clause-within
declare-requires-clause-within c = (c.in-Declare.ensures.tells (child_of c.args.execution.now)).1

pub declare-requires-clause-place : goal.declare-requires-clause-place
declare-requires-clause-place c = c.in-Declare.ensures.there (λ h. cc)

pub child-requires : goal.child-requires
child-requires c = record { created = ap created_by (c.in-Create.ensures.tells (child_of c.args.execution.now)).0.1 }

pub change-requires : goal.change-requires
change-requires c = record { place = c.in-Change.ensures.there (λ h. cc) }
