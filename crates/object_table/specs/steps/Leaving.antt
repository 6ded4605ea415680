-- How a task's turn begins, and how it is left.
use Rattle.std.specs.Prelude.{◌≡◌, ℕ, ◌+◌, ◌<◌, ◌≤◌, true, List, length, Option, None}
use Rattle.jade_base.specs.Held.{Held}
use Rattle.jade_meaning.specs.Talk.{Event, Enter, Enroll, Take, TouchRead, TouchWrite, Wants, Give, Leave, Shift, Resign}
use Rattle.jade_meaning.specs.Plan.{RunPlan}
use Rattle.object_shelf.specs.Views.{ShelfView}
use Rattle.schedule_core.specs.Plain.{seat_after}
use Rattle.object_table.specs.Tallies.{TallyView, most, restocked}
use Rattle.object_table.specs.Views.{count_of, View}
use Rattle.object_table.specs.Touches.{put_held}
use Rattle.object_table.specs.Plays.{in_turn, held_in, handed_by, Seen, OneEvent}
use Rattle.object_table.specs.Calls.{Next, saw, AsBefore}
use Rattle.object_table.specs.steps.Kept.{Rests, InTurn, InRoll, Made, shown}
use Rattle.object_table.specs.declared.task.Task.{Task}
use Rattle.object_table.specs.declared.slot.Slot.{Slot}
use Rattle.object_table.specs.declared.slot.Slot.TheVariants as slot

-- a task that rested before has the turn at a place now, where it found this, and of which the slot has this now; it is else as it was
pub record Begun (slots o : ℕ) (y x : Slot) (before now : Task) : Type 0 where
  pub rests : Rests before
  pub turn : InTurn slots o y x before.seat.me now.seat.me
  pub same : now ≡ record before { seat = now.seat }

-- the slot has what the task's next event makes of it, so that the turn may be left with the event done
pub record Ending (key : RunPlan) (slots o : ℕ) (now : Task) : Type 0 where
  pub before : Task
  pub value : Slot
  pub new : Slot
  pub event : Event
  pub begun : Begun slots o value new before now
  pub object : o < count_of key
  pub next : Next event (shown before)
  pub made : Made o event (in_turn o value (shown before)) new

-- what the task of a path that held this holds once an event is done on an object whose slot showed this
abbrev pub held_after : Event → Slot → List ℕ → List (Option Held) → List (Option Held)
held_after (Take o m) y p h = put_held o (held_in m (handed_by p m y)) h
held_after (Give o) y p h = put_held o None h
held_after (Enter o a) y p h = h
held_after (Shift o a) y p h = h
held_after (Leave o) y p h = h
held_after (Enroll t n) y p h = h
held_after (TouchRead o c x) y p h = h
held_after (TouchWrite o c x) y p h = h
held_after (Wants o c) y p h = h
held_after (Resign b n) y p h = h

-- the task shows that it saw the object and did the event, which is one of a core
abbrev pub EndsWith : (o : ℕ) → Event → Slot → (before after : View) → Type 0
EndsWith o e y v w =
    (z : ShelfView) → y ≡ slot.Object z
    → (w ≡ record (saw o z v) { seat = seat_after None v.seat; held = held_after e y v.seat.path v.held }) × OneEvent e o z v

-- nothing was done in the turn, in which the slot showed this, as a core shows it in which the task lives
pub record Desisted (o : ℕ) (y : Slot) (before after : Task) : Type 0 where
  pub unchanged : AsBefore (shown before) (shown after)
  pub seen : (z : ShelfView) → y ≡ slot.Object z → shown after ≡ saw o z (shown before)
  pub told : (shown before).live ≡ true → (z : ShelfView) → y ≡ slot.Object z → Seen o z (shown before)

-- a task that rested before has the turn at the roll's place now, where it found this, and of which the slot has this now; it is else as it was
pub record BegunRoll (o : ℕ) (r : TallyView) (x : Slot) (before now : Task) : Type 0 where
  pub rests : Rests before
  pub turn : InRoll o (slot.Roll r) x before.seat.me now.seat.me
  pub same : now ≡ record before { seat = now.seat }

-- the roll's slot counts more tickets, for which there is room, and the turn there may be left with them
pub record Stocked (o : ℕ) (now : Task) : Type 0 where
  pub before : Task
  pub roll : TallyView
  pub begun : BegunRoll o roll (slot.Roll (restocked roll)) before now
  pub live : (shown before).live ≡ true
  pub room : (restocked roll).due + length roll.notes ≤ most
