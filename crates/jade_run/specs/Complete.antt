-- What a call comes to where nothing fails.
use Rattle.std.specs.Prelude.{◌≡◌, ℕ, ◌≤◌, ◌⊎◌, List, length}
use Rattle.jade_run.specs.declared.status.Status.{Status}
use Rattle.jade_run.specs.declared.status.Status.TheVariants.{Reading, Memory}
use Rattle.jade_run.specs.Answered.{TurnLists}
use Rattle.jade_run.specs.Outcome.{IsOutcome}

-- a status is that of an outcome by some turn lists, wherever the room holds the outcome's text
pub record EndsBy (words : List (List ℕ)) (bytes : List ℕ) (room : ℕ) (status : Status) : Type 0 where
  pub turns : TurnLists
  pub text : List ℕ
  pub wanted : Status
  pub outcome : IsOutcome words bytes turns text wanted
  pub ends : length text ≤ room → status ≡ wanted

-- of a text that is told whole, and a sink with this room, a call ends so, or for want of memory; it never ends because the source failed
pub record Completes (words : List (List ℕ)) (bytes : List ℕ) (room : ℕ) (status : Status) : Type 0 where
  pub reads : status ≡ Reading → ⊥
  pub ends : EndsBy words bytes room status ⊎ (status ≡ Memory)
