-- What a gate that holds tasks back is to a contract.
use Rattle.std.specs.Prelude.{ℕ, Bool, List, ◌&&◌, nat_eq}
use Rattle.jade_base.specs.Places.{same_path}
use Rattle.steal_workers.specs.declared.step_gate.Hold.{Hold}

-- the holds, and for how many looks each lasts at most
pub record StepGateView : Type 0 where
  pub holds : List Hold
  pub turns : ℕ

-- it holds the task of this path back at its ask of this number
abbrev pub holds_back : (path : List ℕ) (ask : ℕ) → Hold → Bool
holds_back path ask h = same_path h.path path && nat_eq h.ask ask
