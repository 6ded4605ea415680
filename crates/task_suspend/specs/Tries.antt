-- What a try comes to: a capsule before it, and what there is after it. Where no ask stands, the task goes on to its next one. Else the next
-- event of the ask is tried once: it is done, or the word of its place is taken, or another task keeps the object that is asked for.
use Rattle.std.specs.Prelude.{◌≡◌, ◌+◌, ◌%◌, ◌^◌, ℕ, Bool, true, false, List, [], ◌∷◌, Option, Some, None}
use Rattle.jade_base.specs.declared.place.ObjectId.{ObjectId}
use Rattle.jade_base.specs.declared.report.Blame.{Blame}
use Rattle.jade_base.specs.declared.rights.Mode.{Mode}
use Rattle.jade_base.specs.declared.rights.Rights.{Rights}
use Rattle.jade_base.specs.Held.{Held}
use Rattle.jade_meaning.specs.Talk.{Event, Enter, Enroll, Take, TouchRead, TouchWrite, Wants, Give, Leave, Shift, Resign}
use Rattle.object_table.specs.Views.{View, count_of}
use Rattle.object_table.specs.Touches.{put_held}
use Rattle.object_table.specs.Touches.{passed as past_touches}
use Rattle.object_table.specs.Plays.{without_kid, kid_view}
use Rattle.object_table.specs.Calls.{Pass, Next, Took, KeptBy, found_busy, Did, Bore, Ended, Retired}
use Rattle.task_machine.specs.declared.machine.Ask.{Ask}
use Rattle.task_machine.specs.declared.machine.Ask.TheVariants as ask
use Rattle.task_machine.specs.Stages.{rights_at}
use Rattle.task_machine.specs.Machines.{made_at, amended_at, steps_at, child_task, supplied, surrendered}
use Rattle.task_machine.specs.Asks.{Asking, BeginsAs, GoesTo, enters_from, shifts_from, leaves_from, follows, number_of, created, changed}
use Rattle.task_suspend.specs.Asked.{asks, ending, is_end}
use Rattle.task_suspend.specs.declared.name.RunName.{Ghosts}
use Rattle.task_suspend.specs.declared.capsule.Capsule.{Capsule}
use Rattle.task_suspend.specs.declared.went.Went.{Went}
use Rattle.task_suspend.specs.declared.went.Went.TheVariants as went

-- what a capsule carries: the pass and the machine of its task, the object below which the ask that stands is done, how many events are
-- done, and whether the gate was called
pub record Carried : Type 0 where
  pub pass : Pass
  pub machine : Asking
  pub from : ℕ
  pub events : ℕ
  pub gate : Bool

abbrev pub carried : {N : Type 0} {g : Ghosts N} → Capsule N g → Carried
carried c = record {
  pass = c.task.value.pass;
  machine = c.task.value.machine;
  from = c.task.value.from;
  events = c.task.value.events;
  gate = c.task.value.passed;
}

-- the entries of a child, the changes of entries, and the entries that leave, on the objects from a number on
abbrev pub entries_from : ℕ → Carried → List Event
entries_from n a = enters_from n (made_at a.machine.at.execution)

abbrev pub changes_from : ℕ → Carried → List Event
changes_from n a = shifts_from n (rights_at a.machine.at.execution.stage) (amended_at a.machine.at.execution)

abbrev pub departures_from : ℕ → Carried → List Event
departures_from n a = leaves_from n (rights_at a.machine.at.execution.stage)

-- the place of the roll, behind those of the objects
abbrev pub roll_of : Carried → ℕ
roll_of a = count_of a.pass.shows.key

-- the place at which an event may be tried: its object, or the roll
abbrev pub place_of : (roll : ℕ) → Event → ℕ
place_of roll (Enter o r) = o
place_of roll (Enroll t n) = roll
place_of roll (Take o m) = o
place_of roll (TouchRead o c x) = o
place_of roll (TouchWrite o c x) = o
place_of roll (Wants o c) = o
place_of roll (Give o) = o
place_of roll (Leave o) = o
place_of roll (Shift o r) = o
place_of roll (Resign b n) = roll

-- all but the pass is as before
pub record Unmoved (a b : Carried) : Type 0 where
  pub machine : b.machine ≡ a.machine
  pub from : b.from ≡ a.from
  pub events : b.events ≡ a.events
  pub gate : b.gate ≡ a.gate

-- one event more is done, the last one of its ask: the machine is at this, and the gate is not called for its next ask yet
pub record Answered (m : Asking) (a b : Carried) : Type 0 where
  pub machine : b.machine ≡ m
  pub from : b.from ≡ a.from
  pub events : b.events ≡ a.events + 1
  pub gate : b.gate ≡ false

-- one event more is done, and the ask stands still: it is done on the objects up to this one
pub record Further (o : ℕ) (a b : Carried) : Type 0 where
  pub machine : b.machine ≡ a.machine
  pub from : b.from ≡ o + 1
  pub events : b.events ≡ a.events + 1
  pub gate : b.gate ≡ a.gate

-- No ask stood: the machine is at its next ask, and the pass has gone past the cells that were touched on the way.
pub record Advances (a b : Carried) : Type 0 where
  pub idle : a.machine.ask ≡ None
  pub next : Ask
  pub asks : b.machine.ask ≡ Some next
  pub goes : GoesTo a.machine b.machine
  pub count : b.machine.asks ≡ (a.machine.asks + 1) % 2 ^ 64
  pub children : b.machine.children ≡ a.machine.children
  pub pass : b.pass.shows ≡ past_touches b.machine.touched a.pass.shows
  pub from : b.from ≡ 0
  pub events : b.events ≡ a.events + b.machine.touched
  pub gate : b.gate ≡ false

-- the task at an ask: at the one that stood, with nothing done, or else at its next one
pub data IsAtAsk {N : Type 0} {g : Ghosts N} (a b : Capsule N g) : Type 0 where
  stood : b ≡ a → IsAtAsk a b
  advanced : Advances (carried a) (carried b) → IsAtAsk a b

-- A content was asked for, and is had.
pub record Takes (a b : Carried) : Type 0 where
  pub object : ObjectId
  pub mode : Mode
  pub asked : a.machine.ask ≡ Some (ask.Take object mode)
  pub content : Held
  pub took : Took object.0 mode content a.pass.shows b.pass.shows
  pub answered : Answered (record a.machine { at = supplied object.0 content a.machine.at; ask = None }) a b

-- A content was asked for, and an entry, as it was read in this try, keeps the object: one of an earlier task that conflicts, or else that of the
-- task which has the content out: nothing is done.
pub record Waits (object : ObjectId) (a b : Carried) : Type 0 where
  pub mode : Mode
  pub asked : a.machine.ask ≡ Some (ask.Take object mode)
  pub keeper : List ℕ
  pub kept : KeptBy keeper object.0 mode a.pass.shows b.pass.shows
  pub unmoved : Unmoved a b

-- The content of an object was to be given back, and is.
pub record GivesBack (object : ObjectId) (a b : Carried) : Type 0 where
  pub asked : a.machine.ask ≡ Some (ask.GiveBack object)
  pub did : Did object.0 (put_held object.0 None a.pass.shows.held) a.pass.shows b.pass.shows
  pub answered : Answered (record a.machine { at = surrendered object.0 a.machine.at; ask = None }) a b

-- A child was asked for, and its next entry is made.
pub record Enters (a b : Carried) : Type 0 where
  pub asked : a.machine.ask ≡ Some ask.Create
  pub object : ℕ
  pub rights : Rights
  pub next : entries_from a.from a ≡ Enter object rights ∷ entries_from (object + 1) a
  pub did : Did object a.pass.shows.held a.pass.shows b.pass.shows
  pub further : Further object a b

-- A child was asked for, all of its entries are made, and it is enrolled: the parent goes on, and the child is at its begin.
pub record Parts (a b child : Carried) : Type 0 where
  pub asked : a.machine.ask ≡ Some ask.Create
  pub entered : entries_from a.from a ≡ []
  pub enrolled : View
  pub bore : Bore (steps_at a.machine.at) a.pass.shows enrolled
  pub parent : b.pass.shows ≡ without_kid enrolled
  pub answered : Answered (record a.machine { at = created a.machine.at; ask = None; children = (a.machine.children + 1) % 2 ^ 32 }) a b
  pub young : child.pass.shows ≡ kid_view enrolled.unborn enrolled
  pub begins : BeginsAs (child_task (number_of a.machine.at.phase) a.machine.at.execution) child.machine
  pub from : child.from ≡ 0
  pub events : child.events ≡ 0
  pub gate : child.gate ≡ false

-- The rights were to change, and the next entry follows the new ones.
pub record Follows (o : ℕ) (a b : Carried) : Type 0 where
  pub asked : a.machine.ask ≡ Some ask.Change
  pub rights : Rights
  pub next : changes_from a.from a ≡ follows o rights ∷ changes_from (o + 1) a
  pub did : Did o a.pass.shows.held a.pass.shows b.pass.shows
  pub further : Further o a b

-- The rights were to change, all entries follow the new ones, and the machine goes on with them. It is no event.
pub record Amends (a b : Carried) : Type 0 where
  pub asked : a.machine.ask ≡ Some ask.Change
  pub followed : changes_from a.from a ≡ []
  pub pass : b.pass ≡ a.pass
  pub machine : b.machine ≡ record a.machine { at = changed a.machine.at; ask = None }
  pub from : b.from ≡ a.from
  pub events : b.events ≡ a.events
  pub gate : b.gate ≡ false

-- The task was to end, and its next entry has left.
pub record Departs (o : ℕ) (a b : Carried) : Type 0 where
  pub asked : asks is_end a.machine.ask ≡ true
  pub next : departures_from a.from a ≡ Leave o ∷ departures_from (o + 1) a
  pub did : Did o a.pass.shows.held a.pass.shows b.pass.shows
  pub further : Further o a b

-- The task was to end, and all of its entries have left: nothing is done.
pub record HasDeparted (a b : Carried) : Type 0 where
  pub asked : asks is_end a.machine.ask ≡ true
  pub left : departures_from a.from a ≡ []
  pub same : b ≡ a

-- A task whose entries have all left has ended, with the fault that it was to end with, if with one: this is its pass.
pub record Resigns (a : Carried) (p : Pass) : Type 0 where
  pub fault : Option Blame
  pub asked : a.machine.ask ≡ Some (ending fault)
  pub ended : Ended fault (steps_at a.machine.at) a.pass.shows p.shows

-- The same, and its pass was taken into another.
pub record Retires (a : Carried) (kept after : Pass) : Type 0 where
  pub fault : Option Blame
  pub asked : a.machine.ask ≡ Some (ending fault)
  pub retired : Retired fault (steps_at a.machine.at) a.pass.shows kept.shows after.shows

-- An event of the ask comes next, and this try read at its place that the word is taken: nothing is done.
pub record FindsTaken (a b : Carried) : Type 0 where
  pub wanted : Ask
  pub asked : a.machine.ask ≡ Some wanted
  pub event : Event
  pub next : Next event a.pass.shows
  pub read : b.pass.shows ≡ found_busy (place_of (roll_of a) event) a.pass.shows
  pub unmoved : Unmoved a b

-- a task that goes on and frees no object; what it takes for reading it keeps a version of since then
pub data GoesOn (a b : Carried) : Type 0 where
  advances : Advances a b → GoesOn a b
  takes : Takes a b → GoesOn a b
  enters : Enters a b → GoesOn a b
  amends : Amends a b → GoesOn a b

-- a task that goes on, and so may one that waits for this object
pub data Frees (object : ObjectId) (a b : Carried) : Type 0 where
  gives_back : GivesBack object a b → Frees object a b
  follows_on : Follows object.0 a b → Frees object a b
  departs : Departs object.0 a b → Frees object a b

-- how a try went
abbrev pub WentAs : {N : Type 0} {g : Ghosts N} → Capsule N g → Went N g → Type 0
WentAs a (went.Ready b) = GoesOn (carried a) (carried b)
WentAs a (went.Busy b) = FindsTaken (carried a) (carried b)
WentAs a (went.Waits w) = Waits w.place.object (carried a) (carried w.capsule)
WentAs a (went.Freed p b) = Frees p.object (carried a) (carried b)
WentAs a (went.Parted b c) = Parts (carried a) (carried b) (carried c)
WentAs a (went.Departed d) = HasDeparted (carried a) (carried d.capsule)
