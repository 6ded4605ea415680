-- Which works on an object stand before a task's place in the serial order.
use Rattle.std.specs.Prelude.{ℕ, Bool, true, ◌||◌, List, [], ◌∷◌, if◌then◌else◌}
use Rattle.jade_base.specs.Places.{same_path, is_before, key}
use Rattle.jade_meaning.specs.Serial.{Path}
use Rattle.schedule_core.specs.Works.{Work, Wrote, Turned}

-- a write of the task at a path itself, or one whose part has a key before that of the task's part of this number; turns change nothing
abbrev pub passes : Path → ℕ → Work → Bool
passes p n (Wrote q k c v) = same_path q p || is_before (key q k) (key p n)
passes p n (Turned q) = true

-- the works up to a task's place
abbrev pub upto : Path → ℕ → List Work → List Work
upto p n [] = []
upto p n (w ∷ ws) = if passes p n w then w ∷ upto p n ws else upto p n ws
