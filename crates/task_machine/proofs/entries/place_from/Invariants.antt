use Rattle.std.proofs.Common.{◌-◌}
use Rattle.task_machine.specs.steps.Finding.{IsHalved}
use Rattle.task_machine.proofs.entries.place_from.Given as goal

abbrev pub invariant-halves : goal.invariant-halves
invariant-halves l = IsHalved l.from.0 l.low l.high l.spec.entries

abbrev pub decreases-halves : goal.decreases-halves
decreases-halves l = l.high - l.low

abbrev pub invariant-few : goal.invariant-few
invariant-few l = IsHalved l.from.0 l.place l.high l.spec.entries
