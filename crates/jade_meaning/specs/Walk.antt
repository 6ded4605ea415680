-- A task that tells its events one after another, and what it is seen as.
use Rattle.std.specs.Prelude.{◌≡◌, ℕ, suc, Bool, true, false, List, [], ◌∷◌, ◌++◌, length, drop, Option, Some, None, ℤ, replicate}
use Rattle.jade_syntax.specs.declared.tree.Item.{Item}
use Rattle.jade_syntax.specs.declared.tree.Statement.{Statement}
use Rattle.jade_syntax.specs.Image.{block}
use Rattle.jade_meaning.specs.declared.walker.Act.{Act}
use Rattle.jade_meaning.specs.declared.walker.Act.TheVariants as act
use Rattle.jade_meaning.specs.declared.walker.Carried.{Carried}
use Rattle.jade_meaning.specs.declared.walker.Carried.TheVariants as carried
use Rattle.jade_syntax.specs.declared.tree.Program.{Program}
use Rattle.jade_syntax.specs.Objects.{sizes}
use Rattle.jade_base.specs.Rights.{both_rights}
use Rattle.jade_meaning.specs.Walks.{Walk}
pub use Rattle.jade_meaning.specs.Walks.{setting_of}
use Rattle.jade_meaning.specs.Specification.{Specification}
use Rattle.jade_meaning.specs.Course.{Environment, inputs, finish, run_all, child_start}
use Rattle.jade_meaning.specs.Talk.{Task, Event, Enter, Enroll, Take, TouchRead, TouchWrite, Wants, Give, Leave, Shift, Resign, talk}

-- the task
abbrev pub task_of : Walk → Task
task_of w = record { spec = w.spec; course = run_all (setting_of w) (block w.body) finish (child_start w.env w.spec) }

-- its events from the next one on
abbrev pub upcoming : Walk → List Event
upcoming w = drop w.done (talk (task_of w) w.answers)

-- the first of some events, of which this holds
abbrev pub First : List Event → (Event → Type 0) → Type 0
First [] P = ⊥
First (e ∷ es) P = P e

-- the act of an event
abbrev pub act_of : Event → Act
act_of (Enter o a) = act.Enter (record { 0 = o })
act_of (Enroll t n) = act.Enroll
act_of (Take o m) = act.Take (record { 0 = o })
act_of (TouchRead o c v) = act.Touch
act_of (TouchWrite o c v) = act.Touch
act_of (Wants o c) = act.Touch
act_of (Give o) = act.Give (record { 0 = o })
act_of (Leave o) = act.Leave (record { 0 = o })
act_of (Shift o a) = act.Shift (record { 0 = o })
act_of (Resign b n) = act.Resign

-- what an event carries beside the object of its act
abbrev pub carried_of : Event → Carried
carried_of (Enter o a) = carried.Rights a
carried_of (Enroll t n) = carried.Steps n
carried_of (Take o m) = carried.Mode m
carried_of (TouchRead o c v) = carried.Read (record { 0 = o }) c
carried_of (TouchWrite o c v) = carried.Write (record { 0 = o }) c v
carried_of (Wants o c) = carried.Read (record { 0 = o }) c
carried_of (Give o) = carried.Nothing
carried_of (Leave o) = carried.Nothing
carried_of (Shift o a) = carried.Rights a
carried_of (Resign b n) = carried.Ended b n

-- an event that a task may go past with this value: exactly a read has one
abbrev pub Passes : Option ℤ → Event → Type 0
Passes (Some v) (Wants o c) = Unit {0}
Passes (Some v) (Enter o a) = ⊥
Passes (Some v) (Enroll t n) = ⊥
Passes (Some v) (Take o m) = ⊥
Passes (Some v) (TouchRead o c w) = ⊥
Passes (Some v) (TouchWrite o c w) = ⊥
Passes (Some v) (Give o) = ⊥
Passes (Some v) (Leave o) = ⊥
Passes (Some v) (Shift o a) = ⊥
Passes (Some v) (Resign b n) = ⊥
Passes None (Wants o c) = ⊥
Passes None (Resign b n) = ⊥
Passes None (Enter o a) = Unit {0}
Passes None (Enroll t n) = Unit {0}
Passes None (Take o m) = Unit {0}
Passes None (TouchRead o c w) = Unit {0}
Passes None (TouchWrite o c w) = Unit {0}
Passes None (Give o) = Unit {0}
Passes None (Leave o) = Unit {0}
Passes None (Shift o a) = Unit {0}

-- whether an event is a read that has its answer, which is never the next one
abbrev pub is_answered : Event → Bool
is_answered (TouchRead o c v) = true
is_answered (Enter o a) = false
is_answered (Enroll t n) = false
is_answered (Take o m) = false
is_answered (TouchWrite o c v) = false
is_answered (Wants o c) = false
is_answered (Give o) = false
is_answered (Leave o) = false
is_answered (Shift o a) = false
is_answered (Resign b n) = false

-- one event further, with this answer, if there is one
abbrev pub moved : Option ℤ → Walk → Walk
moved None w = record w { done = suc w.done }
moved (Some v) w = record w { done = suc w.done; answers = w.answers ++ v ∷ [] }

-- a child at its first event, whose task is this
pub record IsChildOf (w : Walk) (t : Task) (child : Walk) : Type 0 where
  pub task : task_of child ≡ t
  pub items : child.items ≡ w.items
  pub given : child.given ≡ w.given
  pub limit : child.limit ≡ w.limit
  pub answers : child.answers ≡ []
  pub done : child.done ≡ 0

-- a child is there exactly for a creation
abbrev pub Bears : Walk → Option Walk → Event → Type 0
Bears w None (Enroll t n) = ⊥
Bears w (Some child) (Enroll t n) = IsChildOf w t child
Bears w child (Enter o a) = child ≡ None
Bears w child (Take o m) = child ≡ None
Bears w child (TouchRead o c v) = child ≡ None
Bears w child (TouchWrite o c v) = child ≡ None
Bears w child (Wants o c) = child ≡ None
Bears w child (Give o) = child ≡ None
Bears w child (Leave o) = child ≡ None
Bears w child (Shift o a) = child ≡ None
Bears w child (Resign b n) = child ≡ None

-- a task at its first event
abbrev pub begun_as : List Item → Environment → (limit : ℕ) → Environment → Specification → List Statement → Walk
begun_as items given limit env spec body =
    record { items = items; given = given; limit = limit; env = env; spec = spec; body = body; answers = []; done = 0 }

-- the task of `main`, at its first event
abbrev pub root_walk : Program → List ℤ → (limit : ℕ) → Walk
root_walk p ns limit =
    begun_as p.items (inputs p.items ns) limit (inputs p.items ns) (replicate (length (sizes p.items)) both_rights) p.main
