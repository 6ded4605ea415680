use Rattle.std.proofs.Common.{◌-◌}
use Rattle.task_machine.specs.Machines.{candidates}
use Rattle.task_machine.specs.steps.Searching.{ObjectsHalved}
use Rattle.task_machine.proofs.next.place_from.Given as goal

abbrev pub invariant-halves : goal.invariant-halves
invariant-halves l = ObjectsHalved l.from.0 l.low l.high (candidates l.phase l.execution)

abbrev pub decreases-halves : goal.decreases-halves
decreases-halves l = l.high - l.low

abbrev pub invariant-few : goal.invariant-few
invariant-few l = ObjectsHalved l.from.0 l.place l.high (candidates l.phase l.execution)
