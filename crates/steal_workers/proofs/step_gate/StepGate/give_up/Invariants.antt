use Rattle.std.proofs.Common.{◌≤◌, take}
use Rattle.std.specs.Prelude.{count_by}
use Rattle.steal_workers.specs.Holds.{holds_back}
use Rattle.steal_workers.proofs.step_gate.StepGate.give_up.Given as goal

abbrev pub invariant-looks : goal.invariant-looks
invariant-looks l = l.count ≤ count_by (holds_back l.path l.ask) (take l.i l.self-inside.holds)
