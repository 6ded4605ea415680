-- Where a task stands: what is pending, and what follows it.
use Rattle.std.specs.Prelude.{◌≡◌, ℕ, Bool, true, false, List, [], ◌∷◌, ◌++◌, map, drop, ℤ, Option, is_none, if◌then◌else◌}
use Rattle.jade_base.specs.declared.rights.Mode.{Mode}
use Rattle.jade_meaning.specs.declared.frames.Newborn.{Newborn}
use Rattle.jade_meaning.specs.declared.frames.Transition.{Transition}
use Rattle.jade_meaning.specs.declared.holds.PendingEvent.{PendingEvent}
use Rattle.jade_meaning.specs.declared.configuration.Configuration.{Configuration}
use Rattle.jade_meaning.specs.declared.configuration.Stage.{Stage}
use Rattle.jade_meaning.specs.declared.configuration.Stage.TheVariants.{Going, Asking, Over}
use Rattle.jade_meaning.specs.Specification.{Specification}
use Rattle.jade_syntax.specs.declared.tree.Statement.{Statement}
use Rattle.jade_syntax.specs.Image.{block}
use Rattle.jade_meaning.specs.Course.{Course, Environment, Setting, run_all, finish, child_start}
use Rattle.jade_meaning.specs.Talk.{Task, Event, TouchRead, Wants, Holds, take_in, events}
use Rattle.jade_meaning.specs.steps.Frames.{fed, course_of, born_course, transition_on}
use Rattle.jade_meaning.specs.steps.Holding.{event_of}

-- the task of a child
abbrev pub newborn_task : Setting → Newborn → Task
newborn_task s n = record { spec = n.spec; course = born_course s n }

-- an object that is not held is taken in this mode
abbrev pub taken_first : (hold mode : Option Mode) → ℕ → List Event
taken_first hold mode o = if is_none hold then take_in mode o else []

-- what follows once what is pending is told
abbrev pub later : Stage → Course → Specification → Holds → ℕ → List ℤ → List Event
later Going c spec h n vs = events c spec h n vs
later (Asking o a) c spec h n [] = Wants o.0 a ∷ []
later (Asking o a) c spec h n (v ∷ vs) = TouchRead o.0 a v ∷ events (fed (v ∷ []) c) spec h n vs
later Over c spec h n vs = []

-- what is pending, where a child has this task
abbrev pub pending_of : Task → Configuration → List Event
pending_of w t = map (event_of w) t.pending.items

-- all that a task goes on to tell, where it was given the first answers, and is given the others, and so much of what is pending is told
abbrev pub ahead : Setting → (given : List ℤ) → Configuration → (told : ℕ) → List ℤ → List Event
ahead s given t k vs =
    map (event_of (newborn_task s t.newborn)) (drop k t.pending.items) ++ later t.stage (course_of s given t.run) t.spec t.holds t.part vs

-- nothing is pending, and the task goes on
abbrev pub IsIdle : Configuration → Type 0
IsIdle t = (t.pending.items ≡ []) × (t.stage ≡ Going)

-- whether there is something to tell
abbrev pub ready : List PendingEvent → Stage → Bool
ready (e ∷ es) stage = true
ready [] Going = false
ready [] (Asking o a) = true
ready [] Over = false

-- whether the end is told
abbrev pub over : Stage → Bool
over Going = false
over (Asking o a) = false
over Over = true

-- a task of these variables and rights
abbrev pub task_from : Setting → Environment → Specification → List Statement → Task
task_from s env spec body = record { spec = spec; course = run_all s (block body) finish (child_start env spec) }

-- a task once what is pending is told
abbrev pub Resumes : (before after : Configuration) → Type 0
Resumes t u =
    (u.run.task ≡ t.run.task) × (u.run.frames.items ≡ t.run.frames.items) × (u.run.used ≡ t.run.used) × (u.spec ≡ t.spec) × (u.holds ≡ t.holds)
    × (u.part ≡ t.part) × (u.pending.items ≡ []) × (u.stage ≡ Going)

-- a transition is told: its events are pending, and the run is as it was
abbrev pub TellsTransition : Setting → Transition → (before after : Configuration) → Type 0
TellsTransition s d t u =
    ((c : Course) (vs : List ℤ) → events (transition_on s d c) t.spec t.holds t.part vs ≡ map (event_of (newborn_task s u.newborn)) u.pending.items
    ++ later u.stage c u.spec u.holds u.part vs) × (u.run ≡ t.run)
