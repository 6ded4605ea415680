-- A machine between its calls.
use Rattle.std.specs.Prelude.{◌≡◌, ℕ, zero, suc, ◌+◌, ◌-◌, ◌<◌, ◌≤◌, ◌^◌, ◌==◌, Bool, true, false, List, [], ◌∷◌, length, map, replicate}
use Rattle.std.specs.Prelude.{◌||◌, Option, Some, None, slice_get, if◌then◌else◌}
use Rattle.jade_base.specs.declared.place.ObjectId.{ObjectId}
use Rattle.jade_base.specs.declared.report.Blame.{Blame}
use Rattle.jade_base.specs.declared.rights.Mode.{Mode}
use Rattle.jade_base.specs.declared.rights.Rights.{Rights}
use Rattle.jade_base.specs.Rights.{mode_of}
use Rattle.jade_base.specs.Held.{Held}
use Rattle.jade_meaning.specs.Specification.{rights_on, commuting_on}
use Rattle.jade_meaning.specs.Course.{Ends}
use Rattle.task_machine.specs.declared.holdings.Row.{Row}
use Rattle.task_machine.specs.declared.frame.Pause.{Pause}
use Rattle.task_machine.specs.declared.frame.Pause.TheVariants as pause
use Rattle.task_machine.specs.declared.next.Phase.{Phase}
use Rattle.task_machine.specs.declared.next.Phase.TheVariants as phase
use Rattle.task_machine.specs.declared.machine.Ask.{Ask}
use Rattle.task_machine.specs.declared.machine.Ask.TheVariants as ask
use Rattle.code_meaning.specs.Meaning.{Children}
use Rattle.task_machine.specs.Playing.{played}
use Rattle.task_machine.specs.Stages.{rights_at, ahead}
use Rattle.task_machine.specs.Executions.{Execution, IsSameTask, created_by, has_row, held_by, objects_in, without_content, work_left}
use Rattle.task_machine.specs.Machines.{Machine, IsOrdered, NoDue, IsCreated, IsNext, NoneIsNext, TakeIsNext, course_at, is_to_move, amended_at, holds_at, due_in}
use Rattle.task_machine.specs.Left.{IsNone, has_mode, to_take}
use Rattle.jade_meaning.specs.Talk.{taken_anew}
use Rattle.task_machine.specs.Asks.{Asking, number_of}

-- the task is to give something up, if it is held, and to do what comes after it
abbrev pub gives_up : Phase → Bool
gives_up phase.Starting = false
gives_up phase.Taking = false
gives_up phase.Going = false
gives_up (phase.Creating number) = true
gives_up phase.Changing = true
gives_up (phase.Ending b) = true

-- an object has an entry
abbrev pub has_entry : ℕ → List (ObjectId × Rights) → Bool
has_entry o [] = false
has_entry o (x ∷ xs) = if x.0.0 == o then true else has_entry o xs

-- each object with an entry has a row
pub record HasRows (entries : List (ObjectId × Rights)) (rows : List Row) : Type 0 where
  pub row : (o : ℕ) → has_entry o entries ≡ true → has_row o rows ≡ true

-- what is known in a phase
abbrev pub Knows : Phase → Machine → Type 0
Knows phase.Starting m = Unit {0}
Knows phase.Taking m = Unit {0}
Knows phase.Going m = NoDue m
Knows (phase.Creating number) m =
    NoDue m × IsCreated number m.execution × (created_by (slice_get m.execution.stage.code m.execution.stage.place) ≡ Some number)
Knows phase.Changing m = m.execution.stage.place < length m.execution.stage.code
Knows (phase.Ending b) m = NoDue m × (course_at m.execution ≡ Ends b)

-- an object is asked for in the mode of the rights on it
pub record IsAsked (o : ObjectId) (mode : Mode) (p : Phase) (m : Machine) : Type 0 where
  pub there : has_row o.0 m.execution.rows ≡ true
  pub within : o.0 < m.execution.stage.objects
  pub mode_is : mode_of (rights_on (rights_at m.execution.stage) o.0) ≡ Some mode
  pub next : TakeIsNext o.0 mode p m

-- why an ask stands
abbrev pub Asked : Ask → Phase → Machine → Type 0
Asked (ask.Take o mode) p m = IsAsked o mode p m
Asked (ask.GiveBack o) p m = (gives_up p ≡ true) × IsNext p m o.0
Asked ask.Create p m = (p ≡ phase.Creating (number_of p)) × NoneIsNext p m
Asked ask.Change p m = (p ≡ phase.Changing) × NoneIsNext p m
Asked ask.End p m = (p ≡ phase.Ending None) × NoneIsNext p m
Asked (ask.Fault b) p m = (p ≡ phase.Ending (Some b)) × NoneIsNext p m

abbrev pub AskedIf : Option Ask → Phase → Machine → Type 0
AskedIf None p m = Unit {0}
AskedIf (Some k) p m = Asked k p m

-- a machine by its parts
abbrev pub machine : Execution → List Bool → Phase → (part : ℕ) → Machine
machine e ds p part = record { execution = e; due = ds; phase = p; part = part }

abbrev pub asking : Execution → List Bool → Phase → (part : ℕ) → Option Ask → (asks children touched : ℕ) → Asking
asking e ds p part k n c t = record { at = machine e ds p part; ask = k; asks = n; children = c; touched = t }

-- what is known of a machine
pub record IsKept (a : Asking) : Type 0 where
  pub order : IsOrdered a.at
  pub rows : HasRows a.at.execution.stage.spec.entries a.at.execution.rows
  pub objects : a.at.execution.stage.objects ≡ length a.at.execution.program.sizes
  pub small : a.at.execution.stage.objects < 2 ^ 32
  pub knows : Knows a.at.phase a.at
  pub asked : AskedIf a.ask a.at.phase a.at

-- no mark is set, where it is said so
pub record NoMarks (said : Bool) (ds : List Bool) : Type 0 where
  pub none : said ≡ true → ds ≡ replicate (length ds) false

-- a machine of which this is known, which has nothing to take or to give up below an object, and no mark, where it is said so
pub record IsSearched (from : ℕ) (said : Bool) (a : Asking) : Type 0 where
  pub kept : IsKept a
  pub done : IsNone (is_to_move a.at.phase a.at.execution a.at.due) from
  pub unset : NoMarks said a.at.due

-- what is held is held in the mode of the rights on it
pub record HoldsAsRights (e : Execution) : Type 0 where
  pub agrees : (o : ℕ) (x : Held) → held_by e o ≡ Some x → mode_of (rights_on (rights_at e.stage) o) ≡ Some x.mode

-- the object below which nothing is to be taken or given up, once there is an ask
abbrev pub reached : Ask → (from : ℕ) → ℕ
reached (ask.Take o mode) from = o.0
reached (ask.GiveBack o) from = o.0
reached ask.Create from = from
reached ask.Change from = from
reached ask.End from = from
reached (ask.Fault b) from = from

-- an execution from which a machine begins
pub record IsFresh (e : Execution) : Type 0 where
  pub rows : e.rows ≡ map without_content e.stage.spec.entries
  pub objects : e.stage.objects ≡ length e.program.sizes
  pub small : e.stage.objects < 2 ^ 32

-- the marks once nothing is left to be taken
abbrev pub marks_in : Phase → List Bool → List Bool
marks_in phase.Starting ds = replicate (length ds) false
marks_in phase.Taking ds = replicate (length ds) false
marks_in phase.Going ds = ds
marks_in (phase.Creating number) ds = ds
marks_in phase.Changing ds = ds
marks_in (phase.Ending b) ds = ds

-- the code is to be run on: nothing is left to be taken, or nothing was
abbrev pub RunsOn : Phase → Execution → List Bool → Type 0
RunsOn phase.Starting e ds = (o : ℕ) → to_take (due_in e.rows ds) (rights_at e.stage) o ≡ false
RunsOn phase.Taking e ds = IsNone (is_to_move phase.Taking e ds) e.stage.objects
RunsOn phase.Going e ds = Unit {0}
RunsOn (phase.Creating number) e ds = ⊥
RunsOn phase.Changing e ds = ⊥
RunsOn (phase.Ending b) e ds = ⊥

-- the object on which the task commutes is to be taken
pub record OwnIsDue (e : Execution) (ds : List Bool) (o : ℕ) : Type 0 where
  pub own : commuting_on (rights_at e.stage) ≡ Some o
  pub due : due_in e.rows ds o ≡ true
  pub mode : has_mode (rights_at e.stage) o ≡ true
  pub within : o < e.stage.objects

-- it is not, or there is none
abbrev pub OwnIsNotDue : Execution → List Bool → Type 0
OwnIsNotDue e ds = (o : ℕ) → commuting_on (rights_at e.stage) ≡ Some o → to_take (due_in e.rows ds) (rights_at e.stage) o ≡ false

-- what a task is about once it has come to a pause
abbrev pub phase_of : Pause → Phase
phase_of pause.End = phase.Ending None
phase_of (pause.Fault b) = phase.Ending (Some b)
phase_of (pause.Take o) = phase.Going
phase_of (pause.Declare o r) = phase.Going
phase_of (pause.Create number) = phase.Creating number
phase_of pause.Change = phase.Changing
phase_of pause.Other = phase.Going

-- what is asked for once nothing is left to be given up
abbrev pub end_ask : Option Blame → Ask
end_ask None = ask.End
end_ask (Some b) = ask.Fault b

abbrev pub last_ask : Phase → Ask
last_ask (phase.Creating number) = ask.Create
last_ask phase.Changing = ask.Change
last_ask (phase.Ending b) = end_ask b
last_ask phase.Starting = ask.End
last_ask phase.Taking = ask.End
last_ask phase.Going = ask.End

-- the take of an object in the mode of the rights on it
abbrev pub TakenAs : Ask → ObjectId → Execution → Type 0
TakenAs (ask.Take o mode) object e = (o ≡ object) × (mode_of (rights_on (rights_at e.stage) o.0) ≡ Some mode)
TakenAs (ask.GiveBack o) object e = ⊥
TakenAs ask.Create object e = ⊥
TakenAs ask.Change object e = ⊥
TakenAs ask.End object e = ⊥
TakenAs (ask.Fault b) object e = ⊥

-- whether an object is due once the rights have changed, where it was due before, or not
abbrev pub is_due_anew : Execution → Bool → ℕ → Bool
is_due_anew e d o =
    if d || taken_anew (rights_at e.stage) (amended_at e) (holds_at e) o then has_mode (amended_at e) o else false

-- the marks of the first rows once the rights have changed, and then those from before
abbrev pub marks_anew : Execution → ℕ → List Row → List Bool → List Bool
marks_anew e zero rs ds = ds
marks_anew e (suc n) [] ds = ds
marks_anew e (suc n) (r ∷ rs) [] = []
marks_anew e (suc n) (r ∷ rs) (d ∷ ds) = is_due_anew e d r.object.0 ∷ marks_anew e n rs ds

-- the task has come so far on its way
pub record Comes (old new : Execution) : Type 0 where
  pub plays : (child : Children) (n : ℕ) → played (ahead child old.stage) (held_by old) n old.events
      ≡ played (ahead child new.stage) (held_by new) (n + (old.stage.left - new.stage.left)) new.events
  pub fewer : new.stage.left ≤ old.stage.left
  pub work : work_left new.stage ≤ work_left old.stage
  pub task : IsSameTask old new
  pub rows : objects_in new.rows ≡ objects_in old.rows
