use Rattle.std.proofs.Common.{◌-◌}
use Rattle.task_machine.specs.Executions.{objects_in}
use Rattle.task_machine.specs.steps.Searching.{ObjectsHalved}
use Rattle.task_machine.proofs.holdings.place_from.Given as goal

abbrev pub invariant-halves : goal.invariant-halves
invariant-halves l = ObjectsHalved l.object l.low l.high (objects_in l.rows)

abbrev pub decreases-halves : goal.decreases-halves
decreases-halves l = l.high - l.low

abbrev pub invariant-few : goal.invariant-few
invariant-few l = ObjectsHalved l.object l.place l.high (objects_in l.rows)
