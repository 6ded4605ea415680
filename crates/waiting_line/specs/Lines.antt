-- A line in the serial order of its tasks.
use Rattle.std.specs.Prelude.{ℕ, Bool, true, not, ◌&&◌, List, [], ◌∷◌, if◌then◌else◌}
use Rattle.task_roll.specs.Order.{stands_before}

-- none of these stands before a task
abbrev pub none_before : List ℕ → List (List ℕ) → Bool
none_before p [] = true
none_before p (q ∷ qs) = not (stands_before q p) && none_before p qs

-- none stands before one that comes earlier
abbrev pub in_order : List (List ℕ) → Bool
in_order [] = true
in_order (q ∷ qs) = none_before q qs && in_order qs

-- a thing in line: behind those whose tasks stand before its own, and before the others
abbrev pub placed : {X : Type 0} (task : X → List ℕ) → X → List X → List X
placed task x [] = x ∷ []
placed task x (y ∷ ys) = if stands_before (task y) (task x) then y ∷ placed task x ys else x ∷ (y ∷ ys)
