-- What a machine asks for, and what is left of its task's talk while the ask stands.
use Rattle.std.specs.Prelude.{◌≡◌, ℕ, ◌-◌, ◌<◌, ◌^◌, Bool, List, [], ◌∷◌, ◌++◌, length, map, Option, Some, None, ℤ, nat_eq, if◌then◌else◌}
use Rattle.std.specs.Prelude.{refl}
use Rattle.std.specs.List.{flat_map}
use Rattle.std.specs.Coded.{Coded, code_by, coded×, coded_list, coded_option, coded_bool, coded_ℕ}
use Rattle.jade_base.specs.declared.rights.Rights.{Rights}
use Rattle.jade_base.specs.Rights.{has_rights}
use Rattle.jade_base.specs.Specification.{settled, kept}
use Rattle.jade_base.specs.Held.{Held}
use Rattle.jade_meaning.specs.Specification.{Specification, numbers, rights_on}
use Rattle.jade_meaning.specs.Course.{Course}
use Rattle.jade_meaning.specs.Talk.{Task, Event, Enter, Leave, Shift, Enroll, Take, Give, Resign, Holds, when, shift, talk}
use Rattle.jade_meaning.specs.Talk.{events as events_of}
use Rattle.task_machine.specs.declared.next.Phase.{Phase}
use Rattle.task_machine.specs.declared.next.Phase.TheVariants as phase
use Rattle.task_machine.specs.contracts.next.Phase as phase_row
use Rattle.task_machine.specs.declared.section.Section.TheVariants as section
use Rattle.task_machine.specs.declared.machine.Ask.{Ask}
use Rattle.task_machine.specs.declared.machine.Ask.TheVariants as ask
use Rattle.task_machine.specs.contracts.machine.Ask as ask_row
use Rattle.task_machine.specs.Playing.{played, touches}
use Rattle.task_machine.specs.Stages.{rights_at}
use Rattle.task_machine.specs.Executions.{Execution, coded_execution, held_by, moved_on}
use Rattle.task_machine.specs.Telling.{Agrees}
use Rattle.task_machine.specs.Left.{due_anew, to_take}
use Rattle.task_machine.specs.Machines.{Machine, due_at, holds_at, made_at, amended_at, steps_at, left, child_task, supplied, surrendered}

-- a machine: the execution of its task with what is due; the ask that stands, if one does; how many asks it made, modulo 2^64, and
-- how many children its task created, modulo 2^32; and how many cells it touched on its way to the last ask
pub record Asking : Type 0 where
  pub at : Machine
  pub ask : Option Ask
  pub asks : ℕ
  pub children : ℕ
  pub touched : ℕ

abbrev coded_machine : Coded Machine
coded_machine =
    code_by ((Execution × List Bool) × (Phase × ℕ)) (coded× (coded× coded_execution (coded_list coded_bool)) (coded× phase_row.the_row.coded coded_ℕ))
    (λ m. ((m.execution, m.due), (m.phase, m.part))) (λ p. record { execution = p.0.0; due = p.0.1; phase = p.1.0; part = p.1.1 }) (λ _. refl)

-- a machine as plain data
abbrev pub coded_asking : Coded Asking
coded_asking =
    code_by ((Machine × Option Ask) × (ℕ × (ℕ × ℕ)))
    (coded× (coded× coded_machine (coded_option ask_row.the_row.coded)) (coded× coded_ℕ (coded× coded_ℕ coded_ℕ)))
    (λ a. ((a.at, a.ask), (a.asks, (a.children, a.touched))))
    (λ p. record { at = p.0.0; ask = p.0.1; asks = p.1.0; children = p.1.1.0; touched = p.1.1.1 }) (λ _. refl)

-- the task as it was asked for a child: at the next instruction, outside of a section, in a new part
abbrev pub created : Machine → Machine
created m =
    let e = m.execution in
    record m { execution = record e { stage = moved_on section.Absent e.stage.spec (settled []) e.stage }; phase = phase.Going; part = e.stage.left }

-- the task with the rights that its section has made, at the next instruction; what was given up, and what has become immediate, is
-- due
abbrev pub changed : Machine → Machine
changed m =
    let e = m.execution in
    let due = due_anew (due_at m) (rights_at e.stage) (amended_at e) (holds_at e) in
    record m {
      execution = record e { stage = moved_on section.Absent (settled (kept e.stage.spec.entries e.stage.spec.draft)) e.stage.child e.stage };
      due = map (λ r. to_take due (amended_at e) r.object.0) e.rows;
      phase = phase.Taking;
    }

-- a machine at the begin of a task: all of its talk is left, nothing is held and nothing was asked yet
pub record BeginsAs (t : Task) (a : Asking) : Type 0 where
  pub talk : (vs : List ℤ) → left a.at vs ≡ talk t vs
  pub holds : (o : ℕ) → held_by a.at.execution o ≡ None
  pub ask : a.ask ≡ None
  pub asks : a.asks ≡ 0
  pub children : a.children ≡ 0

-- the course is told from here, with what is held, and is played up to what it can't do with that
pub record PlaysTo (a b : Asking) : Type 0 where
  pub course : Course
  pub spec : Specification
  pub holds : Holds
  pub steps : ℕ
  pub events : ℕ
  pub agrees : Agrees spec holds (held_by a.at.execution)
  pub tells : (vs : List ℤ) → left a.at vs ≡ events_of course spec holds steps vs
  pub tells_on : (vs : List ℤ) → left b.at vs ≡ events_of (played course (held_by a.at.execution) steps events).course spec holds
      (played course (held_by a.at.execution) steps events).steps vs
  pub held : (o : ℕ) → held_by b.at.execution o ≡ (played course (held_by a.at.execution) steps events).contents o
  pub touched : b.touched ≡ length (touches course (held_by a.at.execution))

-- nothing is told on the way
pub record Stays (a b : Asking) : Type 0 where
  pub same : (vs : List ℤ) → left b.at vs ≡ left a.at vs
  pub held : (o : ℕ) → held_by b.at.execution o ≡ held_by a.at.execution o
  pub touched : b.touched ≡ 0

-- a task goes on to its next event: by its touches alone
pub data Goes (a b : Asking) : Type 0 where
  stays : Stays a b → Goes a b
  plays : PlaysTo a b → Goes a b

pub record GoesTo (a b : Asking) : Type 0 where
  pub way : Goes a b
  pub objects : b.at.execution.stage.objects ≡ a.at.execution.stage.objects
  pub few : b.touched < 2 ^ 64

-- the entries of a child, the changes of entries and the entries that leave, on the objects from a number on
abbrev pub enters_from : ℕ → Specification → List Event
enters_from from made = flat_map (λ o. when (has_rights (rights_on made o)) (Enter o (rights_on made o))) (numbers from (length made - from))

abbrev pub shifts_from : ℕ → (old new : Specification) → List Event
shifts_from from old new = flat_map (λ o. shift (rights_on old o) (rights_on new o) o) (numbers from (length new - from))

abbrev pub leaves_from : ℕ → Specification → List Event
leaves_from from spec = flat_map (λ o. when (has_rights (rights_on spec o)) (Leave o)) (numbers from (length spec - from))

-- the event by which an entry follows new rights
abbrev pub follows : ℕ → Rights → Event
follows o r = if has_rights r then Shift o r else Leave o

-- the body that is to be created
abbrev pub number_of : Phase → ℕ
number_of (phase.Creating n) = n
number_of phase.Starting = 0
number_of phase.Taking = 0
number_of phase.Going = 0
number_of phase.Changing = 0
number_of (phase.Ending b) = 0

-- what is left while an ask stands, once what it stands for is done on the objects below `from`
abbrev pub left_from : (from : ℕ) → Option Ask → Machine → List ℤ → List Event
left_from from None m vs = left m vs
left_from from (Some (ask.Take o mode)) m vs = left m vs
left_from from (Some (ask.GiveBack o)) m vs = left m vs
left_from from (Some ask.Create) m vs =
    enters_from from (made_at m.execution) ++ Enroll (child_task (number_of m.phase) m.execution) (steps_at m) ∷ left (created m) vs
left_from from (Some ask.Change) m vs = shifts_from from (rights_at m.execution.stage) (amended_at m.execution) ++ left (changed m) vs
left_from from (Some ask.End) m vs = leaves_from from (rights_at m.execution.stage) ++ Resign None (steps_at m) ∷ []
left_from from (Some (ask.Fault b)) m vs = leaves_from from (rights_at m.execution.stage) ++ Resign (Some b) (steps_at m) ∷ []

-- what an ask says of what comes next
abbrev pub Stands : Ask → Asking → Type 0
Stands (ask.Take o mode) a =
    (o.0 < a.at.execution.stage.objects)
    × ((x : Held) → x.mode ≡ mode → (vs : List ℤ) → left a.at vs ≡ Take o.0 mode ∷ left (supplied o.0 x a.at) vs)
Stands (ask.GiveBack o) a =
    (o.0 < a.at.execution.stage.objects) × ((x : Held) × (held_by a.at.execution o.0 ≡ Some x))
    × ((vs : List ℤ) → left a.at vs ≡ Give o.0 ∷ left (surrendered o.0 a.at) vs)
Stands ask.Create a = (vs : List ℤ) → left a.at vs ≡ left_from 0 (Some ask.Create) a.at vs
Stands ask.Change a = (vs : List ℤ) → left a.at vs ≡ left_from 0 (Some ask.Change) a.at vs
Stands ask.End a = (vs : List ℤ) → left a.at vs ≡ left_from 0 (Some ask.End) a.at vs
Stands (ask.Fault b) a = (vs : List ℤ) → left a.at vs ≡ left_from 0 (Some (ask.Fault b)) a.at vs

-- what is held of each object, with this of one
abbrev pub HeldWith : ℕ → Option Held → Machine → Machine → Type 0
HeldWith o h m m' = (j : ℕ) → held_by m'.execution j ≡ (if nat_eq j o then h else held_by m.execution j)
