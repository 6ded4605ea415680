-- What the steps of passes do to the objects: nothing, unless the pass's seat goes on.
use Rattle.std.specs.Prelude.{◌≡◌, ◌≢◌, ℕ, suc, ◌+◌, ◌<◌, ◌≤◌, Bool, true, false, List, [], ◌∷◌, ◌++◌, map, length, slice_index, slice_set, nat_eq, if◌then◌else◌, Option, Some}
use mathlib.Core.Option.{none, some}
use lib.ListN.{get_elem?}
use Rattle.atomic_table.specs.Table as table
use Rattle.atomic_table.specs.Table.{Me}
use Rattle.jade_base.specs.declared.report.Blame.{Blame}
use Rattle.jade_meaning.specs.Plan.{RunPlan}
use Rattle.jade_meaning.specs.Talk.{Task, Event, Enter, Enroll, Take, TouchRead, TouchWrite, Wants, Give, Leave, Shift, Resign}
use Rattle.schedule_core.specs.declared.steps.Seat.{Seat}
use Rattle.object_table.specs.Tallies.{TallyView, most, restocked, received}
use Rattle.object_table.specs.Views.{count_of, word_of, View, part_of, core_notes, worth, gathered}
use Rattle.object_table.specs.Rule.{Ruled}
use Rattle.object_table.specs.Plays.{tried_at, in_turn, turned_off, Ahead, tried, left_as_it_was, left_done, did_enroll, did_resign, looked, left_restocked}
use Rattle.object_table.specs.Plays.{left_relieved, without_kid, kid_view, joined, spent_view}
use Rattle.object_table.specs.Calls.{IsGone}
use Rattle.object_table.specs.declared.slot.Slot.{Slot}
use Rattle.object_table.specs.declared.slot.Slot.TheVariants as slot

-- after a step words, slots and passes show the core that they showed before it: as many events, the same live tasks, objects and notes
pub record SameCore (key : RunPlan) (s t : table.State Slot View) (h : Ruled key s) : Type 0 where
  pub after : Ruled key t
  pub count : after.count ≡ h.count
  pub roll : map after.seats after.owners ≡ map h.seats h.owners
  pub shelves : after.shelves ≡ h.shelves
  pub notes : core_notes (gathered after.tally t.views) ≡ core_notes (gathered h.tally s.views)

-- and each note is where it was
pub record SameNotes (key : RunPlan) (s t : table.State Slot View) (h : Ruled key s) : Type 0 where
  pub core : SameCore key s t h
  pub notes : gathered core.after.tally t.views ≡ gathered h.tally s.views

-- A try that finds another's turn, one that gets the turn, and a turn that is left with what was found in the slot put back are no events. With these
-- three steps a call has answered Busy, NotYet or want of memory.
pub record TriesChangeNothing (key : RunPlan) : Type 0 where
  pub busy : (s : table.State Slot View) (h : Ruled key s) (id : ℕ) (v : View) → get_elem? s.views id ≡ some v → v.turn ≡ false
      → (o : ℕ) → o < suc (count_of key) → slice_index s.words (word_of o) ≡ 1 → (carried : List (ℕ × Slot))
      → SameNotes key s (table.stepped s (word_of o) 1 id carried (tried_at o 1 v) table.keeps) h
  pub got : (s : table.State Slot View) (h : Ruled key s) (id : ℕ) (v : View) → get_elem? s.views id ≡ some v → v.turn ≡ false → 0 < worth v
      → (o : ℕ) → o < suc (count_of key) → slice_index s.words (word_of o) ≡ 0 → (y : Slot) → y ≡ part_of (count_of key) o h.tally h.shelves
      → (carried : List (ℕ × Slot)) → SameNotes key s (table.stepped s (word_of o) 1 id carried (in_turn o y v) (table.takes o y)) h
  pub left : (s : table.State Slot View) (h : Ruled key s) (id : ℕ) (v : View) → get_elem? s.views id ≡ some v → v.turn ≡ true → (o : ℕ) → v.place ≡ o
      → (carried : List (ℕ × Slot)) → carried ≡ (o, v.note) ∷ table.rest carried
      → SameNotes key s (table.stepped s (word_of o) 0 id carried (turned_off v) table.gives) h

-- the steps of a pass at the words, by what each tells: a try at a place; a turn left with what was found there, or with so many touches and then an
-- event done; a creation, an end and a look, at the table's first word; a turn at the roll, in which this was found, left with more tickets or with
-- all handed in
pub data Move : Type 0 where
  Try : (place : ℕ) → Move
  Desist : Move
  Finish : (touches : ℕ) → Event → Move
  Enrolling : (touches : ℕ) → Task → (steps : ℕ) → Move
  Resigning : (touches : ℕ) → Option Blame → (steps : ℕ) → Move
  Looking : Move
  Restocking : TallyView → Move
  Relieving : TallyView → Move

-- the number of its word
abbrev pub word_at : Move → View → ℕ
word_at (Try o) v = word_of o
word_at Desist v = word_of v.place
word_at (Finish k e) v = word_of v.place
word_at (Enrolling k t n) v = 0
word_at (Resigning k b n) v = 0
word_at Looking v = 0
word_at (Restocking r) v = word_of v.place
word_at (Relieving r) v = word_of v.place

-- what the word becomes: a try writes 1 where it finds 0, and a turn is left with 0
abbrev pub becomes : Move → ℕ → ℕ
becomes (Try o) x = if nat_eq x 0 then 1 else x
becomes Desist x = 0
becomes (Finish k e) x = 0
becomes (Enrolling k t n) x = x
becomes (Resigning k b n) x = x
becomes Looking x = x
becomes (Restocking r) x = 0
becomes (Relieving r) x = 0

-- what it tells the pass
abbrev pub Tells : Move → (slots : ℕ) → Me Slot View → ℕ → Me Slot View → Type 0
Tells (Try o) n m x m' = tried (table.step n (word_of o) 0 1 none) m x m'
Tells Desist n m x m' = left_as_it_was (table.step n (word_of m.0.place) 0 0 none) m 0 m'
Tells (Finish k e) n m x m' = left_done (table.step n (word_of m.0.place) 0 0 none) m 0 m'
Tells (Enrolling k t i) n m x m' = did_enroll (table.step n 0 0 0 none) m x m'
Tells (Resigning k b i) n m x m' = did_resign (table.step n 0 0 0 none) m x m'
Tells Looking n m x m' = looked (table.step n 0 0 0 none) m x m'
Tells (Restocking r) n m x m' = left_restocked (table.step n (word_of m.0.place) 0 0 none) m 0 m'
Tells (Relieving r) n m x m' = left_relieved (table.step n (word_of m.0.place) 0 0 none) m 0 m'

-- a pass has the turn at this place, and its slot, in which this lies now
pub record HasTurn (o : ℕ) (x : Slot) (m : Me Slot View) : Type 0 where
  pub turn : m.0.turn ≡ true
  pub place : m.0.place ≡ o
  pub has : m.1 ≡ (o, x) ∷ table.rest m.1

-- an event on an object
abbrev pub on_object : Event → Bool
on_object (Enter o a) = true
on_object (Take o m) = true
on_object (Give o) = true
on_object (Leave o) = true
on_object (Shift o a) = true
on_object (Enroll t n) = false
on_object (TouchRead o c v) = false
on_object (TouchWrite o c v) = false
on_object (Wants o c) = false
on_object (Resign b n) = false

-- what is so of a pass that does it, for the plan
abbrev pub Ready : RunPlan → Move → Me Slot View → Type 0
Ready key (Try o) m = (o < suc (count_of key)) × (m.0.turn ≡ false) × (m.0.live ≡ false → 0 < worth m.0)
Ready key Desist m = HasTurn m.0.place m.0.note m
Ready key (Finish k e) m = Ahead k e m.0 × (on_object e ≡ true)
Ready key (Enrolling k t n) m = Ahead k (Enroll t n) m.0
Ready key (Resigning k b n) m = Ahead k (Resign b n) m.0
Ready key Looking m = Unit {0}
Ready key (Restocking r) m =
    (m.0.live ≡ true) × (m.0.note ≡ slot.Roll r) × HasTurn (count_of key) (slot.Roll (restocked r)) m × ((restocked r).due + length r.notes ≤ most)
Ready key (Relieving r) m = IsGone m.0 × (m.0.note ≡ slot.Roll r) × HasTurn (count_of key) (slot.Roll (received (worth m.0) m.0.notes r)) m

-- a slot is taken, or the one taken last is given back, or neither
abbrev pub is_one : table.Act Slot → Bool
is_one table.keeps = true
is_one (table.takes o y) = true
is_one table.gives = true
is_one (table.chain a b) = false

-- the pass of a number, which shows this and has these slots, does a step with this act, after which it shows w
pub record Steps (key : RunPlan) (move : Move) (s : table.State Slot View) (id : ℕ) (m : Me Slot View) (w : View) (a : table.Act Slot) : Type 0 where
  pub here : get_elem? s.views id ≡ some m.0
  pub ready : Ready key move m
  pub one : is_one a ≡ true
  pub valid : table.Valid s.homes m.1 a
  pub told : Tells move (suc (count_of key)) m (slice_index s.words (word_at move m.0)) (w, table.carried_after m.1 a)

-- what words, slots and passes are then
abbrev pub after_step : Move → table.State Slot View → (id : ℕ) → Me Slot View → View → table.Act Slot → table.State Slot View
after_step move s id m w a =
    table.stepped s (word_at move m.0) (becomes move (slice_index s.words (word_at move m.0))) id m.1 w a

-- Whatever words, slots and passes are at a moment: a step of a pass takes back none of its task's events, and where as many are done as before, it
-- changes no object, no task and no note. Nor does one that gives a child its pass, or takes one pass into another. So a call has done no event
-- after which the pass has as many done as before.
pub record EventsMoveSeats (key : RunPlan) : Type 0 where
  pub grows : (s : table.State Slot View) (move : Move) (id : ℕ) (m : Me Slot View) (w : View) (a : table.Act Slot)
      → Steps key move s id m w a → m.0.seat.walker.done ≤ w.seat.walker.done
  pub still : (s : table.State Slot View) (h : Ruled key s) (move : Move) (id : ℕ) (m : Me Slot View) (w : View) (a : table.Act Slot)
      → Steps key move s id m w a → w.seat.walker.done ≡ m.0.seat.walker.done → SameCore key s (after_step move s id m w a) h
  pub split : (s : table.State Slot View) (h : Ruled key s) (id : ℕ) (v : View) (kid : Seat) → get_elem? s.views id ≡ some v → v.live ≡ true
      → v.unborn ≡ Some kid
      → SameCore key s (record { words = s.words; homes = s.homes; views = slice_set s.views id (without_kid v) ++ kid_view v.unborn v ∷ [] }) h
  pub joins : (s : table.State Slot View) (h : Ruled key s) (id other : ℕ) (v w : View) → get_elem? s.views id ≡ some v → get_elem? s.views other ≡ some w
      → other ≢ id → IsGone v → IsGone w → v.turn ≡ false → w.turn ≡ false
      → SameCore key s (record { words = s.words; homes = s.homes; views = slice_set (slice_set s.views id (joined v w)) other spent_view }) h
