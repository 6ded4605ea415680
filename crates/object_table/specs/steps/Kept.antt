-- What the calls keep between their steps.
use Rattle.std.specs.Prelude.{◌≡◌, ◌<◌, ◌%◌, ◌^◌, ℕ, suc, true, false, List, [], ◌∷◌, ◌++◌, Some, None, Result, Ok, Err}
use mathlib.Core.Option.{none}
use Rattle.atomic_table.specs.Table.{Me, Step, step, Allows}
use Rattle.jade_base.specs.Held.{Held}
use Rattle.jade_base.specs.declared.failure.Memory.{Memory}
use Rattle.jade_base.specs.declared.rights.Mode.{Mode}
use Rattle.jade_base.specs.declared.rights.Rights.{Rights}
use Rattle.object_shelf.specs.declared.queue.Entry.{Entry}
use Rattle.jade_meaning.specs.Talk.{Event, Enter, Enroll, Take, TouchRead, TouchWrite, Wants, Give, Leave, Shift, Resign}
use Rattle.object_shelf.specs.Views.{ObjectView, ShelfView}
use Rattle.object_shelf.specs.Shelves.{find, keeper_in, at, without, entered_in, with_rights}
use Rattle.object_shelf.specs.Homes.{hand_in, handed, returned, on_queue, started}
use Rattle.jade_base.specs.Rights.{both_rights}
use Rattle.schedule_core.specs.declared.steps.Seat.{Seat}
use Rattle.task_roll.specs.declared.note.PartNote.{PartNote}
use Rattle.schedule_core.specs.ByNumber.{shelf_at}
use Rattle.schedule_core.specs.Plain.{Reached}
use Rattle.schedule_core.specs.Tells.{CoreTells, EntriesAreThere}
use Rattle.schedule_core.specs.Holders.{HoldersAreLive}
use Rattle.jade_meaning.specs.Plan.{RunPlan}
use Rattle.object_table.specs.Tallies.{opened}
use Rattle.object_table.specs.Views.{count_of, word_of, View, core_notes}
use Rattle.object_table.specs.Touches.{held_at, passed, all_touches}
use Rattle.object_table.specs.Bags.{Few}
use Rattle.object_table.specs.Rule.{Ruled}
use Rattle.object_table.specs.Plays.{Told, ToldRoll, in_turn, kid_view}
use Rattle.object_table.specs.declared.task.Task.{Task}
use Rattle.atomic_table.specs.Seated.{TableId}
use Rattle.object_table.specs.declared.turns.Handed.{Handed}
use Rattle.object_table.specs.declared.turns.Handed.TheVariants as handing
use Rattle.object_table.specs.declared.slot.Slot.{Slot}
use Rattle.object_table.specs.declared.slot.Slot.TheVariants as slot

-- the value that an event on an object makes of the slot's that was found
abbrev pub Made : ℕ → Event → View → Slot → Type 0
Made o (Take q m) v new =
    (q ≡ o) × (y : ShelfView) × (v.note ≡ slot.Object y) × (keeper_in v.seat.path m y.queue ≡ None) × (new ≡ slot.Object (handed v.seat.path m y))
Made o (Give q) v new =
    (q ≡ o) × (y : ShelfView) × (c : Held) × (v.note ≡ slot.Object y) × (held_at o v.held ≡ Some c) × (new ≡ slot.Object (returned v.seat.path c y))
Made o (Enter q a) v new =
    (q ≡ o) × (y : ShelfView) × (v.note ≡ slot.Object y) × (new ≡ slot.Object (on_queue (entered_in v.seat.path (v.seat.path ++ v.seat.children ∷ []) a) y))
Made o (Shift q a) v new =
    (q ≡ o) × (y : ShelfView) × (v.note ≡ slot.Object y) × (new ≡ slot.Object (on_queue (at v.seat.path (with_rights a)) y))
Made o (Leave q) v new = (q ≡ o) × (y : ShelfView) × (v.note ≡ slot.Object y) × (new ≡ slot.Object (on_queue (without v.seat.path) y))
Made o (Enroll t n) v new = ⊥
Made o (Resign b n) v new = ⊥
Made o (TouchRead q c x) v new = ⊥
Made o (TouchWrite q c x) v new = ⊥
Made o (Wants q c) v new = ⊥

-- no path has two entries on an object
pub record Once (key : RunPlan) : Type 0 where
  pub each : (k : ℕ) (roll : List Seat) (ss : List ObjectView) (notes : List PartNote) → Reached key.program key.numbers key.limit k roll ss notes
      → (o : ℕ) (p : List ℕ) → find p (without p (shelf_at ss o).queue) ≡ None

-- no part has two notes
pub record FewAreReached (key : RunPlan) : Type 0 where
  pub each : (k : ℕ) (roll : List Seat) (ss : List ObjectView) (told : List PartNote)
      → Reached key.program key.numbers key.limit k roll ss (core_notes told) → Few told

-- what a task shows: what its seat shows, and its touches since
abbrev pub shown : Task → View
shown t = passed t.touched t.seat.me.0

-- a child that a task of this path and with so many children made last, at its first event
pub record Youngest (p : List ℕ) (children : ℕ) (s : Seat) : Type 0 where
  pub number : ℕ
  pub count : children ≡ suc number
  pub path : s.path ≡ p ++ number ∷ []
  pub childless : s.children ≡ 0
  pub begins : s.walker.done ≡ 0

-- a pass between two calls: it has no slot and no turn, and its fields are what it shows
pub record Rests (t : Task) : Type 0 where
  pub holds : t.seat.me.1 ≡ []
  pub idle : t.seat.me.0.turn ≡ false
  pub touches : all_touches t.touched t.seat.me.0 ≡ true
  pub path : t.path ≡ t.seat.me.0.seat.path
  pub spare : t.seat.me.0.live ≡ true → t.spare ≡ Some t.path
  pub children : t.children ≡ t.seat.me.0.seat.children
  pub events : t.events ≡ (shown t).seat.walker.done % 2 ^ 64
  pub over : t.over ≡ t.seat.me.0.over
  pub tickets : t.tickets ≡ t.seat.me.0.tickets
  pub notes : t.notes ≡ t.seat.me.0.notes
  pub fed : t.seat.me.0.live ≡ true → 0 < t.seat.me.0.tickets
  pub rich : (s : Seat) → t.seat.me.0.unborn ≡ Some s → 1 < t.seat.me.0.tickets
  pub kid : (s : Seat) → t.seat.me.0.unborn ≡ Some s → Youngest t.seat.me.0.seat.path t.seat.me.0.seat.children s

-- the token of the child that a task enrolled last
abbrev pub IsKidOf : Task → Task → Type 0
IsKidOf t kid = (kid.seat.table_id ≡ t.seat.table_id) × Rests kid × (shown kid ≡ kid_view (shown t).unborn (shown t))

-- the words and slots are those of the objects and of the roll
pub record Laid (z : TableId) (key : RunPlan) : Type 0 where
  pub wide : z.words ≡ word_of z.slots
  pub few : z.words < 2 ^ 64
  pub deep : z.slots ≡ suc (count_of key)

-- the task is of this table, and the object is one of its program's
pub record Fits (z : TableId) (key : RunPlan) (t : Task) (o : ℕ) : Type 0 where
  pub laid : Laid z key
  pub mark : t.seat.table_id ≡ z
  pub object : o < count_of key

-- the task is of this table, and the place is the roll's
pub record FitsRoll (z : TableId) (key : RunPlan) (t : Task) (o : ℕ) : Type 0 where
  pub laid : Laid z key
  pub mark : t.seat.table_id ≡ z
  pub place : o ≡ count_of key

-- a seat has the turn at a place, where it found this, and of which the slot has this now
pub record InTurn (slots o : ℕ) (y x : Slot) (old new : Me Slot View) : Type 0 where
  pub me : new ≡ (in_turn o y old.0, (o, x) ∷ [])
  pub told : Told slots old.0 o y

-- a try got the turn at a place, and found this
pub record GotTurn (slots o : ℕ) (y : Slot) (old new : Me Slot View) : Type 0 where
  pub me : new ≡ (in_turn o y old.0, (o, y) ∷ [])
  pub told : old.0.live ≡ true → Told slots old.0 o y
  pub roll : slots ≡ suc o → ToldRoll old.0 y

-- a seat has the turn at the roll's place, where it found this, and of which the slot has this now
pub record InRoll (o : ℕ) (y x : Slot) (old new : Me Slot View) : Type 0 where
  pub me : new ≡ (in_turn o y old.0, (o, x) ∷ [])
  pub told : ToldRoll old.0 y

-- a seat may do this by a load of the first word
abbrev pub Loads : (Step Slot → Me Slot View → ℕ → Me Slot View → Type 0) → RunPlan → (slots id : ℕ) → Me Slot View → Type 0
Loads play key slots id me = Allows (Ruled key) slots id me 0 (λ x. x) (play (step slots 0 0 0 none) me)

-- a seat may leave a turn in this way
abbrev pub Leaves : (Step Slot → Me Slot View → ℕ → Me Slot View → Type 0) → RunPlan → (slots id : ℕ) → Me Slot View → ℕ → Type 0
Leaves play key slots id me o = Allows (Ruled key) slots id me (word_of o) (λ x. 0) (λ x. play (step slots (word_of o) 0 0 none) me 0)

-- what is true of every core of a plan
pub record Laws (key : RunPlan) : Type 0 where
  pub tells : CoreTells key.program key.numbers key.limit
  pub entries : EntriesAreThere key.program key.numbers key.limit
  pub once : Once key
  pub holders : HoldersAreLive key.program key.numbers key.limit
  pub few : FewAreReached key

-- a slot's value is the roll's
abbrev pub IsRoll : Slot → Type 0
IsRoll (slot.Roll r) = Unit {0}
IsRoll slot.Away = ⊥
IsRoll (slot.Object y) = ⊥

-- a slot's value is an object's
abbrev pub IsObject : Slot → Type 0
IsObject (slot.Object y) = Unit {0}
IsObject slot.Away = ⊥
IsObject (slot.Roll r) = ⊥

-- what a Take makes of an object in a slot: the content is handed out, or an entry keeps the task from it
abbrev pub HandedAs : ShelfView → List ℕ → Mode → Result Handed Memory → Slot → Type 0
HandedAs y p m (Ok (handing.Content c)) w =
    (keeper_in p m y.queue ≡ None) × (hand_in p m y ≡ Some c.cells) × (c.mode ≡ m) × (w ≡ slot.Object (handed p m y))
HandedAs y p m (Ok (handing.Kept q)) w = (w ≡ slot.Object y) × (e : Entry) × (keeper_in p m y.queue ≡ Some e) × (q ≡ e.path)
HandedAs y p m (Err e) w = w ≡ slot.Object y

-- what an Enter makes of an object in a slot
abbrev pub EnteredAs : ShelfView → (parent child : List ℕ) → Rights → Result (Unit {0}) Memory → Slot → Type 0
EnteredAs y p c a (Ok _) w = w ≡ slot.Object (on_queue (entered_in p c a) y)
EnteredAs y p c a (Err e) w = w ≡ slot.Object y

-- the slots at the start
abbrev pub start_slots : List ℕ → List Slot
start_slots [] = []
start_slots (n ∷ ns) = slot.Object (started (0 ∷ []) both_rights n) ∷ start_slots ns

pub record FirstSlots (ns : List ℕ) (xs : List Slot) : Type 0 where
  pub is : xs ≡ start_slots ns ++ slot.Roll opened ∷ []
