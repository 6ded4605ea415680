-- The rule of the table: words, slots at home and passes show a core that events reach.
use Rattle.std.specs.Prelude.{◌≡◌, ◌≢◌, ℕ, suc, ◌+◌, ◌*◌, ◌<◌, ◌≤◌, true, false, List, [], ◌∷◌, ◌++◌, map, length, slice_index, Option, Some, None}
use mathlib.Core.Option.{some}
use lib.ListN.{get_elem?}
use Rattle.atomic_table.specs.Table as table
use Rattle.jade_base.specs.Held.{Held}
use Rattle.jade_base.specs.declared.rights.Mode.{Mode}
use Rattle.jade_meaning.specs.Laws.{Every}
use Rattle.object_shelf.specs.declared.queue.Entry.{Entry}
use Rattle.object_shelf.specs.Views.{ObjectView}
use Rattle.object_shelf.specs.Shelves.{find, takes_out}
use Rattle.schedule_core.specs.declared.steps.Seat.{Seat}
use Rattle.schedule_core.specs.ByNumber.{shelf_at}
use Rattle.schedule_core.specs.Plain.{Reached, root_seat}
use Rattle.jade_meaning.specs.Plan.{RunPlan}
use Rattle.object_table.specs.Tallies.{TallyView, stock, most}
use Rattle.object_table.specs.Views.{count_of, word_of, View, part_of, core_notes, worth, worths, gathered}
use Rattle.object_table.specs.Touches.{held_at}
use Rattle.object_table.specs.declared.slot.Slot.{Slot}
use Rattle.object_table.specs.declared.slot.Slot.TheVariants as slot

-- a seat belongs to a pass, or to the pass that enrolled it last and has not made its pass yet
abbrev pub pass_of : ℕ → ℕ
pass_of id = 2 * id

abbrev pub kid_of : ℕ → ℕ
kid_of id = 2 * id + 1

abbrev pub Absent : ℕ → List ℕ → Type 0
Absent x ys = Every (λ (y : ℕ). y ≢ x) ys

-- where an owner stands, once
pub record Spot (owners : List ℕ) (x : ℕ) : Type 0 where
  pub front : List ℕ
  pub back : List ℕ
  pub is : owners ≡ front ++ (x ∷ back)
  pub before : Absent x front
  pub after : Absent x back

-- an owner's seat on the roll
pub record OnRoll (owners : List ℕ) (seats : ℕ → Seat) (x : ℕ) (s : Seat) : Type 0 where
  pub spot : Spot owners x
  pub is : seats x ≡ s

abbrev pub hold_of : Option Entry → Option Mode
hold_of None = None
hold_of (Some e) = e.hold

-- what a task has in hand of an object is what its entry says: nothing, the content itself, which it has out, or the version kept for it
pub data HeldOk (p : List ℕ) (s : ObjectView) (h : Option Held) : Type 0 where
  nothing : h ≡ None → hold_of (find p s.queue) ≡ None → HeldOk p s h
  owns : (d : Held) (e : Entry) → h ≡ Some d → find p s.queue ≡ Some e → e.hold ≡ Some d.mode → takes_out e.hold ≡ true → e.version ≡ None → s.content ≡ d.cells
      → HeldOk p s h
  sees : (d : Held) (e : Entry) → h ≡ Some d → find p s.queue ≡ Some e → e.hold ≡ Some d.mode → takes_out e.hold ≡ false → e.version ≡ Some d.cells
      → HeldOk p s h

pub record Agrees (p : List ℕ) (ss : List ObjectView) (hs : List (Option Held)) : Type 0 where
  pub each : (o : ℕ) → HeldOk p (shelf_at ss o) (held_at o hs)

-- each seat is a pass's, or a child's of a pass
pub data Owned (views : List View) (x : ℕ) : Type 0 where
  by_pass : (id : ℕ) (v : View) → get_elem? views id ≡ some v → v.live ≡ true → x ≡ pass_of id → Owned views x
  by_maker : (id : ℕ) (v : View) (kid : Seat) → get_elem? views id ≡ some v → v.unborn ≡ Some kid → x ≡ kid_of id → Owned views x

-- a pass shows its seat on the roll and the contents that its task holds, and has a ticket for it, and one for a child that has no pass yet
pub record Sits (owners : List ℕ) (seats : ℕ → Seat) (ss : List ObjectView) (id : ℕ) (v : View) : Type 0 where
  pub live : v.live ≡ true → OnRoll owners seats (pass_of id) v.seat
  pub held : v.live ≡ true → Agrees v.seat.path ss v.held
  pub unborn : (kid : Seat) → v.unborn ≡ Some kid → OnRoll owners seats (kid_of id) kid
  pub unheld : (kid : Seat) → v.unborn ≡ Some kid → Agrees kid.path ss []
  pub fed : v.live ≡ true → 0 < v.tickets
  pub feeds : (kid : Seat) → v.unborn ≡ Some kid → 1 < v.tickets

-- what may still come is what passes have, and for all notes there is room
pub record Accounts (r : TallyView) (views : List View) : Type 0 where
  pub due : r.due ≡ worths views
  pub room : r.due + length r.notes ≤ most

module _ (n : ℕ) where
  -- a pass with a turn holds the word of its place, and found there what that part is still
  pub record TurnOk (words : List ℕ) (holder : ℕ → ℕ) (parts : ℕ → Slot) (id : ℕ) (v : View) : Type 0 where
    pub inside : v.place < suc n
    pub word : slice_index words (word_of v.place) ≡ 1
    pub holds : holder v.place ≡ id
    pub found : v.note ≡ parts v.place

  -- a word is free, and its slot shows its part, or one pass has a turn there
  pub data PlaceOk (s : table.State Slot View) (holder : ℕ → ℕ) (parts : ℕ → Slot) (o : ℕ) : Type 0 where
    free : (y : Slot) → slice_index s.words (word_of o) ≡ 0 → get_elem? s.homes o ≡ some (some y) → y ≡ parts o → PlaceOk s holder parts o
    taken : (v : View) → slice_index s.words (word_of o) ≡ 1 → get_elem? s.views (holder o) ≡ some v → v.turn ≡ true → v.place ≡ o → PlaceOk s holder parts o

  pub record SeatOk (words : List ℕ) (owners : List ℕ) (seats : ℕ → Seat) (holder : ℕ → ℕ) (ss : List ObjectView) (parts : ℕ
      → Slot) (key : RunPlan) (id : ℕ) (v : View) : Type 0 where
    pub plan : v.live ≡ true → v.key ≡ key
    pub sits : Sits owners seats ss id v
    pub turn : v.turn ≡ true → TurnOk words holder parts id v
    pub busy : v.turn ≡ true → 0 < worth v

  -- words, slots at home and passes show seats, objects and notes that core events reach
  pub record Shown (key : RunPlan) (s : table.State Slot View) : Type 0 where
    pub count : ℕ
    pub owners : List ℕ
    pub seats : ℕ → Seat
    pub shelves : List ObjectView
    pub tally : TallyView
    pub holder : ℕ → ℕ
    pub reached : Reached key.program key.numbers key.limit count (map seats owners) shelves (core_notes (gathered tally s.views))
    pub accounts : Accounts tally s.views
    pub settled : (id : ℕ) (v : View) → get_elem? s.views id ≡ some v → v.over ≡ true → tally.due ≡ 0
    pub wide : length s.words ≡ word_of (suc n)
    pub deep : length s.homes ≡ suc n
    pub passes : (id : ℕ) (v : View) → get_elem? s.views id ≡ some v
        → SeatOk s.words owners seats holder shelves (λ o. part_of n o tally shelves) key id v
    pub only : Every (Owned s.views) owners
    pub places : (o : ℕ) → o < suc n → PlaceOk s holder (λ o. part_of n o tally shelves) o

-- the rule
abbrev pub Ruled : RunPlan → table.State Slot View → Type 0
Ruled key s = Shown (count_of key) key s

-- the root's pass at the start
abbrev pub first_view : RunPlan → View
first_view key = record {
  key = key;
  live = true;
  unborn = None;
  seat = root_seat key.program key.numbers key.limit;
  held = [];
  over = false;
  tickets = stock;
  notes = [];
  turn = false;
  tries = 0;
  place = 0;
  word = 0;
  note = slot.Away;
}
