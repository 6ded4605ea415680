-- A task that plays its code and takes and gives up objects, and what is left of its talk.
use Rattle.std.specs.Prelude.{◌≡◌, ℕ, ◌-◌, ◌<◌, ◌≤◌, ◌==◌, Bool, true, false, List, [], ◌∷◌, ◌++◌, length, map, Option, Some, None, ℤ}
use Rattle.std.specs.Prelude.{if◌then◌else◌}
use Rattle.jade_base.specs.declared.report.Blame.{Blame}
use Rattle.jade_base.specs.declared.rights.Mode.{Mode}
use Rattle.jade_base.specs.Rights.{mode_of}
use Rattle.jade_base.specs.Held.{Held}
use Rattle.jade_meaning.specs.Specification.{Specification, numbers, rights_on, commuting_on}
use Rattle.jade_meaning.specs.Spread.{spread}
use Rattle.jade_meaning.specs.Course.{Course, Creates, Ends, NoDraft}
use Rattle.jade_meaning.specs.Talk.{Event, Enroll, Take, Give, Resign, Holds, Task, given_back, enters, shifts, end_leaves, events, talk}
use Rattle.jade_base.specs.declared.place.ObjectId.{ObjectId}
use Rattle.jade_base.specs.declared.rights.Rights.{Rights}
use Rattle.code_meaning.specs.Meaning.{Children, given_slots, passed, code_course}
use Rattle.task_code.specs.Rules.{TaskCode, Valid}
use Rattle.code_meaning.specs.Children.{children_of}
use Rattle.task_machine.specs.declared.holdings.Row.{Row}
use Rattle.task_machine.specs.declared.next.Phase.{Phase}
use Rattle.task_machine.specs.declared.next.Phase.TheVariants as phase
use Rattle.task_machine.specs.declared.frame.Pause.{Pause}
use Rattle.task_machine.specs.declared.frame.Pause.TheVariants as pause
use Rattle.task_machine.specs.Playing.{Contents, answers, touches, played}
use Rattle.task_machine.specs.Stages.{rights_at, copy_spread, ahead, beyond, slots_of}
use Rattle.task_machine.specs.Executions.{Execution, Advanced, IsBegun, body_at, held_by, with_content, has_row, objects_in}
use Rattle.task_machine.specs.Telling.{mode_held}
use Rattle.task_machine.specs.Left.{Due, left_to_start, left_to_tell, left_to_change, due_anew, others, IsLeast, IsNone, to_take, Touches, for_child, is_held}

-- The execution of the task; for each row of it whether its object is still to be taken; what the task is about; and the steps
-- that it could begin when its present part began.
pub record Machine : Type 0 where
  pub execution : Execution
  pub due : List Bool
  pub phase : Phase
  pub part : ℕ

-- the mark of an object's row
abbrev pub due_in : List Row → List Bool → Due
due_in [] ds o = false
due_in (r ∷ rs) [] o = false
due_in (r ∷ rs) (d ∷ ds) o = if r.object.0 == o then d else due_in rs ds o

-- the marks with another for the row of an object
abbrev pub with_mark : ℕ → Bool → List Row → List Bool → List Bool
with_mark o b [] ds = ds
with_mark o b (r ∷ rs) [] = []
with_mark o b (r ∷ rs) (d ∷ ds) = if r.object.0 == o then b ∷ ds else d ∷ with_mark o b rs ds

-- the objects that are still to be taken
abbrev pub due_at : Machine → Due
due_at m = due_in m.execution.rows m.due

-- the modes in which contents are held, for so many objects
abbrev pub holds_of : ℕ → Contents → Holds
holds_of n k = map (λ o. mode_held (k o)) (numbers 0 n)

abbrev pub holds_at : Execution → Holds
holds_at e = holds_of e.stage.objects (held_by e)

-- what the children of the task do
abbrev pub child_of : Execution → Children
child_of e = children_of e.numbers e.limit e.program.bodies e.body

-- what the task goes on to do
abbrev pub course_at : Execution → Course
course_at e = ahead (child_of e) e.stage

-- the rights that a section has made for a child, and those that one has made for the task itself
abbrev pub made_at : Execution → Specification
made_at e = spread e.stage.objects e.stage.child.entries

abbrev pub amended_at : Execution → Specification
amended_at e = copy_spread e.stage.objects e.stage.spec

-- the steps that the present part has begun
abbrev pub steps_at : Machine → ℕ
steps_at m = m.part - m.execution.stage.left

-- what is left of the task's talk
abbrev pub left_in : Phase → Machine → List ℤ → List Event
left_in phase.Changing m vs =
    let e = m.execution in
    left_to_change (due_at m) (amended_at e) (beyond (child_of e) e.stage (amended_at e) NoDraft) (rights_at e.stage) (holds_at e) (steps_at m) vs
left_in phase.Starting m vs = left_to_start (due_at m) (course_at m.execution) (rights_at m.execution.stage) (holds_at m.execution) (steps_at m) vs
left_in phase.Taking m vs = left_to_tell (due_at m) (course_at m.execution) (rights_at m.execution.stage) (holds_at m.execution) (steps_at m) vs
left_in phase.Going m vs = left_to_tell (due_at m) (course_at m.execution) (rights_at m.execution.stage) (holds_at m.execution) (steps_at m) vs
left_in (phase.Creating number) m vs =
    left_to_tell (due_at m) (course_at m.execution) (rights_at m.execution.stage) (holds_at m.execution) (steps_at m) vs
left_in (phase.Ending b) m vs =
    left_to_tell (due_at m) (course_at m.execution) (rights_at m.execution.stage) (holds_at m.execution) (steps_at m) vs

abbrev pub left : Machine → List ℤ → List Event
left m vs = left_in m.phase m vs

-- the machine with the content of an object, which is due no more
abbrev pub supplied : ℕ → Held → Machine → Machine
supplied o x m = record m {
  execution = record m.execution { rows = with_content o (Some x) m.execution.rows };
  due = with_mark o false m.execution.rows m.due;
}

-- an object that is given up for a change is due after it
abbrev pub marks_after : Phase → ℕ → List Row → List Bool → List Bool
marks_after phase.Changing o rs ds = with_mark o true rs ds
marks_after phase.Starting o rs ds = ds
marks_after phase.Taking o rs ds = ds
marks_after phase.Going o rs ds = ds
marks_after (phase.Creating number) o rs ds = ds
marks_after (phase.Ending b) o rs ds = ds

-- the machine without the content of an object
abbrev pub surrendered : ℕ → Machine → Machine
surrendered o m = record m {
  execution = record m.execution { rows = with_content o None m.execution.rows };
  due = marks_after m.phase o m.execution.rows m.due;
}

-- the task that is to be created
abbrev pub child_task : ℕ → Execution → Task
child_task number e = record { spec = made_at e; course = child_of e number (slots_of e.stage.slots) (made_at e) }

-- the take of an object is what comes next: with a content of this mode, the rest of the talk is left
abbrev pub TakeIsNext : ℕ → Mode → Phase → Machine → Type 0
TakeIsNext o mode p m = (x : Held) → x.mode ≡ mode → (vs : List ℤ) → left_in p m vs ≡ Take o mode ∷ left_in p (supplied o x m) vs

-- the give of an object is what comes next: without its content, the rest of the talk is left
abbrev pub GiveIsNext : ℕ → Phase → Machine → Type 0
GiveIsNext o p m = (vs : List ℤ) → left_in p m vs ≡ Give o ∷ left_in p (surrendered o (record m { phase = p })) vs

-- the creation of a child is what comes next: after it, this is left
abbrev pub CreationIsNext : ℕ → Machine → Type 0
CreationIsNext number m =
    let e = m.execution in
    (vs : List ℤ) → left_in (phase.Creating number) m vs
    ≡ enters (made_at e) ++ Enroll (child_task number e) (steps_at m)
    ∷ events (beyond (child_of e) e.stage (rights_at e.stage) NoDraft) (rights_at e.stage) (holds_at e) 0 vs

-- the change of the rights is what comes next: after it, this is left
abbrev pub ChangeIsNext : Machine → Type 0
ChangeIsNext m =
    let e = m.execution in
    (vs : List ℤ) → left_in phase.Changing m vs
    ≡ shifts (rights_at e.stage) (amended_at e) ++ left_to_tell (due_anew (due_at m) (rights_at e.stage) (amended_at e) (holds_at e))
    (beyond (child_of e) e.stage (amended_at e) NoDraft) (amended_at e) (holds_at e) (steps_at m) vs

-- the end is what comes next
abbrev pub EndIsNext : Option Blame → Machine → Type 0
EndIsNext b m = (vs : List ℤ) → left_in (phase.Ending b) m vs ≡ end_leaves (rights_at m.execution.stage) ++ Resign b (steps_at m) ∷ []

-- what is left once the course is played with what is held
abbrev pub rest_of : Machine → List ℤ → List Event
rest_of m vs =
    let e = m.execution in
    let p = played (course_at e) (held_by e) (steps_at m) e.events in
    events p.course (rights_at e.stage) (holds_at e) p.steps vs

-- the reads are answered by what is held, and the touches are told
abbrev pub PlaysOn : Machine → Type 0
PlaysOn m =
    let e = m.execution in
    (vs : List ℤ) → left_in phase.Going m (answers (course_at e) (held_by e) ++ vs) ≡ touches (course_at e) (held_by e) ++ rest_of m vs

-- the pause is not one for a declaration, which is no event
abbrev pub is_event : Pause → Bool
is_event pause.End = true
is_event (pause.Fault b) = true
is_event (pause.Take o) = true
is_event (pause.Declare o r) = false
is_event (pause.Create number) = true
is_event pause.Change = true
is_event pause.Other = false

-- the machine where the task has gone on
abbrev pub at_pause : Machine → Execution → Machine
at_pause m e = record m { execution = e }

-- going on to a pause leaves the same; where the pause is one for an event, the talk goes on there
pub record GoesOn (m : Machine) (p : Pause) (e : Execution) : Type 0 where
  pub rest : (vs : List ℤ) → rest_of m vs ≡ rest_of (at_pause m e) vs
  pub left : is_event p ≡ true → (vs : List ℤ) → rest_of (at_pause m e) vs ≡ left_in phase.Going (at_pause m e) vs

-- nothing is due
abbrev pub NoDue : Machine → Type 0
NoDue m = (o : ℕ) → due_at m o ≡ false

-- each row has a mark, what is held is held in the mode of the rights on it, what is due is not held, and the part has begun no
-- more steps than there were
pub record IsOrdered (m : Machine) : Type 0 where
  pub long : length m.due ≡ length m.execution.rows
  pub agrees : (o : ℕ) (x : Held) → held_by m.execution o ≡ Some x → mode_of (rights_on (rights_at m.execution.stage) o) ≡ Some x.mode
  pub free : (o : ℕ) → due_at m o ≡ true → held_by m.execution o ≡ None
  pub steps : m.execution.stage.left ≤ m.part

-- a task that begins has a mark for each row
abbrev pub all_due : List Row → List Bool
all_due rs = map (λ r. true) rs

abbrev pub begun : Execution → Machine
begun e = record {
  execution = e;
  due = all_due e.rows;
  phase = phase.Starting;
  part = e.stage.left;
}

-- what is left where a task begins is its talk
abbrev pub BeginsItsTalk : Execution → Type 0
BeginsItsTalk e = (vs : List ℤ) → left_in phase.Starting (begun e) vs ≡ talk (record { spec = rights_at e.stage; course = course_at e }) vs

-- an execution that begins as a child of another, with the body of a number, has the rights that the section made and does what
-- the creator's course says
pub record IsChild (m : Execution) (number : ℕ) (e : Execution) : Type 0 where
  pub rights : rights_at e.stage ≡ made_at m
  pub course : course_at e ≡ child_of m number (slots_of m.stage.slots) (made_at m)

abbrev pub BeginsChild : Execution → (number : ℕ) → Execution → Type 0
BeginsChild m number e =
    m.stage.objects ≡ length m.program.sizes → m.body < number → number < length m.program.bodies
    → IsBegun m.program m.numbers m.limit number (passed m.numbers (body_at m.program number).call (slots_of m.stage.slots)) m.stage.child.entries e
    → IsChild m number e

-- an execution that begins with the first body of code that keeps the rules does what the whole code does
abbrev pub BeginsCode : TaskCode → List ℤ → (limit : ℕ) → List (ObjectId × Rights) → Execution → Type 0
BeginsCode c zs limit es e =
    Valid c → IsBegun c zs limit 0 (given_slots zs) es e
    → course_at e ≡ code_course c.bodies zs limit (rights_at e.stage)

-- the objects among which the next is found that is to be taken or given up
abbrev pub candidates : Phase → Execution → List ObjectId
candidates (phase.Creating number) e = map (λ x. x.0) e.stage.child.entries
candidates phase.Starting e = objects_in e.rows
candidates phase.Taking e = objects_in e.rows
candidates phase.Going e = objects_in e.rows
candidates phase.Changing e = objects_in e.rows
candidates (phase.Ending b) e = objects_in e.rows

-- an object is to be taken, or to be given up
abbrev pub is_to_move : Phase → Execution → List Bool → ℕ → Bool
is_to_move phase.Starting e ds o = to_take (others (commuting_on (rights_at e.stage)) (due_in e.rows ds)) (rights_at e.stage) o
is_to_move phase.Taking e ds o = to_take (due_in e.rows ds) (rights_at e.stage) o
is_to_move phase.Going e ds o = false
is_to_move (phase.Creating number) e ds o = for_child (made_at e) (holds_at e) o
is_to_move phase.Changing e ds o = given_back (amended_at e) (holds_at e) o
is_to_move (phase.Ending b) e ds o = is_held (holds_at e) o

-- this object is the next to be taken or given up
abbrev pub IsNext : Phase → Machine → ℕ → Type 0
IsNext p m o = IsLeast (is_to_move p m.execution m.due) m.execution.stage.objects o

-- nothing is left to be taken or given up
abbrev pub NoneIsNext : Phase → Machine → Type 0
NoneIsNext p m = IsNone (is_to_move p m.execution m.due) m.execution.stage.objects

-- where a task begins, the least object that is due, has a mode and is not the one on which the task commutes is taken next; where
-- there is none, that one is; and where nothing is due, the course is told
pub record StartsDue (m : Machine) : Type 0 where
  pub takes : (o : ℕ) (mode : Mode) → IsNext phase.Starting m o → mode_of (rights_on (rights_at m.execution.stage) o) ≡ Some mode
      → TakeIsNext o mode phase.Starting m
  pub takes_own : (o : ℕ) (mode : Mode) → NoneIsNext phase.Starting m → commuting_on (rights_at m.execution.stage) ≡ Some o → due_at m o ≡ true
      → o < m.execution.stage.objects → mode_of (rights_on (rights_at m.execution.stage) o) ≡ Some mode → TakeIsNext o mode phase.Starting m
  pub goes_on : ((o : ℕ) → to_take (due_at m) (rights_at m.execution.stage) o ≡ false) → (vs : List ℤ) → left_in phase.Starting m vs
      ≡ events (course_at m.execution) (rights_at m.execution.stage) (holds_at m.execution) (steps_at m) vs

-- the least object that is due and has a mode is taken next, and where there is none, the course is told
pub record TakesDue (m : Machine) : Type 0 where
  pub takes : (o : ℕ) (mode : Mode) → IsNext phase.Taking m o → mode_of (rights_on (rights_at m.execution.stage) o) ≡ Some mode
      → TakeIsNext o mode phase.Taking m
  pub goes_on : NoneIsNext phase.Taking m → (vs : List ℤ) → left_in phase.Taking m vs
      ≡ events (course_at m.execution) (rights_at m.execution.stage) (holds_at m.execution) (steps_at m) vs

-- an object that is touched next and not held is taken next
abbrev pub WantedIsTaken : Machine → Type 0
WantedIsTaken m =
    let e = m.execution in
    (o : ℕ) (mode : Mode) → has_row o e.rows ≡ true → o < e.stage.objects → Touches o (course_at e) → held_by e o ≡ None
    → mode_of (rights_on (rights_at e.stage) o) ≡ Some mode → TakeIsNext o mode phase.Going m

-- the body of this number is created next
abbrev pub IsCreated : ℕ → Execution → Type 0
IsCreated number e =
    course_at e ≡ Creates (made_at e) (child_of e number (slots_of e.stage.slots) (made_at e)) (beyond (child_of e) e.stage (rights_at e.stage) NoDraft)

-- the least object that is held and asked for is given up next, and where there is none, the child is created, the rights change
-- or the task ends
pub record GivesAndCreates (m : Machine) : Type 0 where
  pub gives : (number o : ℕ) → IsCreated number m.execution → IsNext (phase.Creating number) m o → GiveIsNext o (phase.Creating number) m
  pub creates : (number : ℕ) → IsCreated number m.execution → NoneIsNext (phase.Creating number) m → CreationIsNext number m

pub record GivesAndChanges (m : Machine) : Type 0 where
  pub gives : (o : ℕ) → IsNext phase.Changing m o → GiveIsNext o phase.Changing m
  pub changes : NoneIsNext phase.Changing m → ChangeIsNext m

pub record GivesAndEnds (m : Machine) : Type 0 where
  pub gives : (b : Option Blame) (o : ℕ) → course_at m.execution ≡ Ends b → IsNext (phase.Ending b) m o → GiveIsNext o (phase.Ending b) m
  pub ends : (b : Option Blame) → course_at m.execution ≡ Ends b → NoneIsNext (phase.Ending b) m → EndIsNext b m

-- a task that goes on to a pause has the same left, and nothing is due then
abbrev pub AdvancedGoesOn : Machine → Type 0
AdvancedGoesOn m =
    (p : Pause) (e : Execution) → Advanced m.execution p e → (p ≡ pause.Other → ⊥)
    → GoesOn m p e × IsOrdered (at_pause m e) × NoDue (at_pause m e)
