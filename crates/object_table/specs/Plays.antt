-- What the steps on the words tell.
use Rattle.std.specs.Prelude.{◌≡◌, ◌≢◌, ℕ, suc, ◌+◌, ◌-◌, ◌≤◌, Bool, true, false, ◌||◌, List, [], ◌∷◌, ◌++◌, length, Option, Some, None, ℤ}
use Rattle.atomic_table.specs.Table as table
use Rattle.atomic_table.specs.Table.{Me, Step}
use Rattle.jade_base.specs.Held.{Held}
use Rattle.jade_base.specs.declared.report.Blame.{Blame}
use Rattle.jade_base.specs.declared.rights.Mode.{Mode}
use Rattle.jade_meaning.specs.Talk.{Task, Event, Enter, Enroll, Take, TouchRead, TouchWrite, Wants, Give, Leave, Shift, Resign}
use Rattle.jade_meaning.specs.Walk.{upcoming, First, moved}
use Rattle.object_shelf.specs.Views.{ObjectView, ShelfView}
use Rattle.object_shelf.specs.Homes.{hand_in}
use Rattle.schedule_core.specs.declared.steps.Seat.{Seat}
use Rattle.task_roll.specs.declared.note.PartNote.{PartNote}
use Rattle.schedule_core.specs.ByNumber.{shelf_at}
use Rattle.schedule_core.specs.Plain.{Reached, seat_after, Born, Does}
use Rattle.object_table.specs.Tallies.{TallyView, stock, most, share, is_settled}
use Rattle.object_table.specs.Views.{word_of, View, part_of, shelf_of, core_notes, worth}
use Rattle.object_table.specs.Touches.{put_held, is_touch, passed, all_touches}
use Rattle.object_table.specs.Rule.{Agrees}
use Rattle.object_table.specs.declared.slot.Slot.{Slot}
use Rattle.object_table.specs.declared.slot.Slot.TheVariants as slot

-- seats, objects and notes that core events reach, among which the pass's seat stands and agrees with what the pass holds, and of which a slot
-- of so many shows this, beside a tally
pub record Told (slots : ℕ) (v : View) (o : ℕ) (y : Slot) : Type 0 where
  pub objects : ℕ
  pub sized : slots ≡ suc objects
  pub count : ℕ
  pub front : List Seat
  pub back : List Seat
  pub shelves : List ObjectView
  pub notes : List PartNote
  pub tally : TallyView
  pub reached : Reached v.key.program v.key.numbers v.key.limit count (front ++ (v.seat ∷ back)) shelves (core_notes notes)
  pub agrees : Agrees v.seat.path shelves v.held
  pub shows : y ≡ part_of objects o tally shelves

-- the roll's slot shows a tally that counts what the pass has, and has room for it
pub record ToldRoll (v : View) (y : Slot) : Type 0 where
  pub tally : TallyView
  pub shows : y ≡ slot.Roll tally
  pub counts : worth v ≤ tally.due
  pub room : tally.due + length tally.notes ≤ most

-- one try more, at a place where this word was read
abbrev pub tried_at : (place word : ℕ) → View → View
tried_at o r v = record v { tries = suc v.tries; place = o; word = r }

-- the turn is had, and this was found
abbrev pub in_turn : ℕ → Slot → View → View
in_turn o y v = record v { turn = true; tries = suc v.tries; place = o; word = 0; note = y }

-- a try at a place: the pass gets the turn and the slot, or found that another has it
abbrev pub tried_there : (slots o : ℕ) → Me Slot View → ℕ → Me Slot View → Type 0
tried_there slots o m r m' =
    (r ≡ 0 → (y : Slot) × (m' ≡ (in_turn o y m.0, (o, y) ∷ m.1)) × (m.0.live ≡ true → Told slots m.0 o y) × (slots ≡ suc o → ToldRoll m.0 y))
    × (r ≢ 0 → (r ≡ 1) × (m' ≡ (tried_at o 1 m.0, m.1)))

-- a try at the word of a place
abbrev pub tried : Step Slot → Me Slot View → ℕ → Me Slot View → Type 0
tried st m r m' = (o : ℕ) → st.word ≡ word_of o → tried_there st.slots o m r m'

-- the turn is left
abbrev pub turned_off : View → View
turned_off v = record v { turn = false }

-- a core in which a pass's task lives: allowed events have reached it from the start of the run of the pass's plan, and the task is live there, at
-- the place and with the contents that the pass shows
pub record Lives (v : View) : Type 0 where
  pub count : ℕ
  pub front : List Seat
  pub back : List Seat
  pub shelves : List ObjectView
  pub notes : List PartNote
  pub reached : Reached v.key.program v.key.numbers v.key.limit count (front ++ (v.seat ∷ back)) shelves notes
  pub held : Agrees v.seat.path shelves v.held

-- such a core, and this is what it shows of an object
pub record Seen (o : ℕ) (x : ShelfView) (v : View) : Type 0 where
  pub core : Lives v
  pub is : x ≡ shelf_of (shelf_at core.shelves o)

-- the turn is left and the slot is back, with nothing changed; if it is an object's, it showed what a core shows of the object in which the pass's
-- task lives, with its touches done
abbrev pub left_as_it_was : Step Slot → Me Slot View → ℕ → Me Slot View → Type 0
left_as_it_was st m r m' =
    (m' ≡ (turned_off m.0, table.rest m.1))
    × ((k : ℕ) → all_touches k m.0 ≡ true → m.0.live ≡ true → (x : ShelfView) → m.0.note ≡ slot.Object x → Seen m.0.place x (passed k m.0))

-- a content as it is held
abbrev pub held_in : Mode → Option (List ℤ) → Option Held
held_in m None = None
held_in m (Some xs) = Some (record { mode = m; cells = xs })

-- what a slot hands out to a path's task
abbrev pub handed_by : List ℕ → Mode → Slot → Option (List ℤ)
handed_by p m (slot.Object x) = hand_in p m x
handed_by p m slot.Away = None
handed_by p m (slot.Roll r) = None

-- an event on an object is done: a Take adds what was handed out to what is held, and a Give takes it away
abbrev pub did : Event → View → View
did (Take o m) v =
    record v { seat = seat_after None v.seat; held = put_held o (held_in m (handed_by v.seat.path m v.note)) v.held; turn = false }
did (Give o) v = record v { seat = seat_after None v.seat; held = put_held o None v.held; turn = false }
did (Enter o a) v = record v { seat = seat_after None v.seat; turn = false }
did (Shift o a) v = record v { seat = seat_after None v.seat; turn = false }
did (Leave o) v = record v { seat = seat_after None v.seat; turn = false }
did (Enroll t n) v = v
did (TouchRead o c x) v = v
did (TouchWrite o c x) v = v
did (Wants o c) v = v
did (Resign b n) v = v

-- the next event after so many touches
pub record Ahead (k : ℕ) (e : Event) (v : View) : Type 0 where
  pub touches : all_touches k v ≡ true
  pub next : First (upcoming (passed k v).seat.walker) (λ x. x ≡ e)
  pub public : is_touch e ≡ false

-- one event of a core in which the pass's task lives, of which this was seen of an object: the event is the task's next one there, and leaves the
-- objects so
pub record OneEvent (e : Event) (o : ℕ) (x : ShelfView) (v : View) : Type 0 where
  pub seen : Seen o x v
  pub next : First (upcoming v.seat.walker) (λ y. y ≡ e)
  pub after : List ObjectView
  pub does : Does e v.seat seen.core.shelves (seat_after None v.seat ∷ []) after

-- one event of a core in which the pass's task lives, which changes no object: the event is the task's next one there, and leaves these seats in
-- the place of the task's
pub record OwnEvent (e : Event) (v : View) (after : List Seat) : Type 0 where
  pub core : Lives v
  pub next : First (upcoming v.seat.walker) (λ y. y ≡ e)
  pub does : Does e v.seat core.shelves after core.shelves

-- the turn is left with the pass's touches and then its next event done, which is one event of a core, of which the slot showed the object
abbrev pub left_done : Step Slot → Me Slot View → ℕ → Me Slot View → Type 0
left_done st m r m' =
    ((k : ℕ) (e : Event) → Ahead k e m.0
    → (m'.0 ≡ did e (passed k m.0)) × ((x : ShelfView) → m.0.note ≡ slot.Object x → OneEvent e m.0.place x (passed k m.0)))
    × (m'.1 ≡ table.rest m.1)

-- the note of a part of so many steps that a task ends, with this fault, if with one
abbrev pub note_after : View → (steps : ℕ) → Option Blame → PartNote
note_after v n b = record { path = v.seat.path; children = v.seat.children; steps = n; blame = b }

-- a ticket is spent on a note
abbrev pub noting : PartNote → View → View
noting x v = record v { tickets = v.tickets - 1; notes = v.notes ++ x ∷ [] }

-- a child with this seat is enrolled, which has no pass yet
abbrev pub bore : (steps : ℕ) → Seat → View → View
bore n kid v =
    record (noting (note_after v n None) v) {
      seat = record v.seat { walker = moved None v.seat.walker; children = suc v.seat.children };
      unborn = Some kid;
    }

-- the pass's touches and then a creation are done, at no word of its own, which is one event of a core; for its notes there is room
abbrev pub did_enroll : Step Slot → Me Slot View → ℕ → Me Slot View → Type 0
did_enroll st m r m' =
    ((k : ℕ) (t : Task) (n : ℕ) → Ahead k (Enroll t n) m.0
    → (kid : Seat) × Born (passed k m.0).seat kid m'.0.seat × (m'.0 ≡ bore n kid (passed k m.0)) × (worth m'.0 ≤ most)
    × OwnEvent (Enroll t n) (passed k m.0) (kid ∷ (m'.0.seat ∷ [])))
    × (m'.1 ≡ m.1)

-- a task has ended
abbrev pub gone : Option Blame → (steps : ℕ) → View → View
gone b n v = record (noting (note_after v n b) v) { live = false; seat = seat_after None v.seat }

-- the pass's touches and then its end are done, at no word of its own, which is one event of a core; for its notes there is room
abbrev pub did_resign : Step Slot → Me Slot View → ℕ → Me Slot View → Type 0
did_resign st m r m' =
    ((k : ℕ) (b : Option Blame) (n : ℕ) → Ahead k (Resign b n) m.0
    → (m'.0 ≡ gone b n (passed k m.0)) × (worth m'.0 ≤ most) × OwnEvent (Resign b n) (passed k m.0) [])
    × (m'.1 ≡ m.1)

-- nothing is done; for what the pass has there is room
abbrev pub looked : Step Slot → Me Slot View → ℕ → Me Slot View → Type 0
looked st m r m' = (m' ≡ m) × (worth m.0 ≤ most)

-- more tickets
abbrev pub supplied : View → View
supplied v = record v { tickets = v.tickets + stock; turn = false }

-- the turn at the roll is left with more tickets
abbrev pub left_restocked : Step Slot → Me Slot View → ℕ → Me Slot View → Type 0
left_restocked st m r m' = m' ≡ (supplied m.0, table.rest m.1)

-- whether a slot's value says that nothing may still come
abbrev pub is_all_in : Slot → Bool
is_all_in (slot.Roll r) = is_settled r
is_all_in slot.Away = false
is_all_in (slot.Object x) = false

-- and that of the one that a pass took last
abbrev pub all_in : List (ℕ × Slot) → Bool
all_in [] = false
all_in (x ∷ xs) = is_all_in x.1

-- a pass has handed in all that it had, with which nothing may still come, or something may
abbrev pub relieved : Bool → View → View
relieved last v = record v { tickets = 0; notes = []; over = v.over || last; turn = false }

-- the turn at the roll is left with all that the pass had handed in
abbrev pub left_relieved : Step Slot → Me Slot View → ℕ → Me Slot View → Type 0
left_relieved st m r m' = m' ≡ (relieved (all_in m.1) m.0, table.rest m.1)

-- a pass whose child that it enrolled last has its pass, and its share of the tickets
abbrev pub without_kid : View → View
without_kid v = record v { unborn = None; tickets = v.tickets - share v.tickets }

-- what the pass of a child with this seat shows at first
abbrev pub kid_view : Option Seat → View → View
kid_view None v = v
kid_view (Some s) v =
    record {
      key = v.key;
      live = true;
      unborn = None;
      seat = s;
      held = [];
      over = false;
      tickets = share v.tickets;
      notes = [];
      turn = false;
      tries = 0;
      place = 0;
      word = 0;
      note = slot.Away;
    }

-- a pass whose task has ended takes another in, with what it has and what it knows of the end
abbrev pub joined : View → View → View
joined v w = record v { over = v.over || w.over; tickets = v.tickets + w.tickets; notes = v.notes ++ w.notes }

-- what is left of a pass that was taken into another
abbrev pub spent_view : View
spent_view = record {
  key = record { program = record { items = []; main = [] }; numbers = []; limit = 0 };
  live = false;
  unborn = None;
  seat = record {
    path = [];
    walker = record { items = []; given = []; limit = 0; env = []; spec = []; body = []; answers = []; done = 0 };
    children = 0;
  };
  held = [];
  over = false;
  tickets = 0;
  notes = [];
  turn = false;
  tries = 0;
  place = 0;
  word = 0;
  note = slot.Away;
}
