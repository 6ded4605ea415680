-- The lines of a text.
use Rattle.std.specs.Prelude.{◌≡◌, ℕ, List, All}
use Rattle.run_record.specs.Pieces.{Lacks}
use Rattle.run_record.specs.Recording.{ended}

-- lines are those of a text, each of which a line feed ends
pub record AreLines (lines : List (List ℕ)) (text : List ℕ) : Type 0 where
  pub whole : ended lines ≡ text
  pub one_each : All (Lacks 10) lines
