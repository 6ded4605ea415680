-- The numbers of rooms.
use Rattle.std.specs.Prelude.{ℕ, suc, Bool, true, ◌&&◌, List, [], ◌∷◌, nat_eq}
use Rattle.task_suspend.specs.declared.name.RunName.{Ghosts}
use Rattle.task_suspend.specs.declared.room.Room.{Room}

-- the objects whose rooms these are
abbrev pub numbers : {N : Type 0} {g : Ghosts N} → List (Room N g) → List ℕ
numbers [] = []
numbers (r ∷ rs) = r.object.0 ∷ numbers rs

-- these are the numbers from one on, in order
abbrev pub are_numbered : ℕ → List ℕ → Bool
are_numbered n [] = true
are_numbered n (o ∷ os) = nat_eq o n && are_numbered (suc n) os
