-- Encodings of what contracts see.
use Rattle.std.specs.Prelude.{ℕ, List, refl}
use Rattle.std.specs.Coded.{Coded, code_by, coded×, coded_list, coded_ℕ}
use Rattle.steal_workers.specs.declared.step_gate.Hold.{Hold}
use Rattle.steal_workers.specs.contracts.step_gate.Hold as hold
use Rattle.steal_workers.specs.Holds.{StepGateView}

-- of a gate that holds tasks back
abbrev pub coded_step_gate : Coded StepGateView
coded_step_gate =
    code_by (List Hold × ℕ) (coded× (coded_list hold.the_row.coded) coded_ℕ) (λ g. (g.holds, g.turns)) (λ p. record { holds = p.0; turns = p.1 }) (λ _. refl)
