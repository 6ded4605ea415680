-- Capsules that wait.
use Rattle.std.specs.Prelude.{ℕ, Bool, true, false, ◌&&◌, List, [], ◌∷◌}
use Rattle.task_suspend.specs.declared.name.RunName.{Ghosts}
use Rattle.task_suspend.specs.declared.modes.Modes.{Modes}
use Rattle.task_suspend.specs.declared.capsule.Capsule.{Capsule}
use Rattle.task_suspend.specs.Asked.{asks, is_take_in, is_take_of}

-- the task of a capsule asks for the content of an object
abbrev pub waits_for : {N : Type 0} {g : Ghosts N} → ℕ → Capsule N g → Bool
waits_for o c = asks (is_take_of o) c.task.value.machine.ask

-- in one of these modes
abbrev pub asks_in : {N : Type 0} {g : Ghosts N} → Modes → Capsule N g → Bool
asks_in ms c = asks (is_take_in ms) c.task.value.machine.ask

-- the tasks of all capsules ask for the content of an object
abbrev pub all_wait : {N : Type 0} {g : Ghosts N} → ℕ → List (Capsule N g) → Bool
all_wait o [] = true
all_wait o (c ∷ cs) = waits_for o c && all_wait o cs

-- the first of some capsules asks for a content in one of these modes
abbrev pub first_asks_in : {N : Type 0} {g : Ghosts N} → Modes → List (Capsule N g) → Bool
first_asks_in ms [] = false
first_asks_in ms (c ∷ cs) = asks_in ms c

-- the path of the task of a capsule
abbrev pub path_of : {N : Type 0} {g : Ghosts N} → Capsule N g → List ℕ
path_of c = c.task.value.pass.shows.seat.path
