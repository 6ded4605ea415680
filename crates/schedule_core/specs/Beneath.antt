-- Which paths are a task's and those of its children.
use Rattle.std.specs.Prelude.{◌≡◌, ℕ, ◌≤◌, List, [], ◌∷◌, ◌++◌}
use Rattle.jade_meaning.specs.Serial.{Path}

-- what goes on from a task's path is nothing, or begins with the number of a child from this one on
abbrev pub From : ℕ → Path → Type 0
From k [] = Unit {0}
From k (j ∷ q) = k ≤ j

-- a path is that of the task at another one, or of a child of it from number `part` on, or of a task below that child
pub record Within (path : Path) (part : ℕ) (p : Path) : Type 0 where
  pub rest : Path
  pub is : p ≡ path ++ rest
  pub from : From part rest
