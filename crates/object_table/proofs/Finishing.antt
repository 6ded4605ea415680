-- A turn is left with the pass's touches and an event on its object done.
use Rattle.std.proofs.Common.{◌≡◌, ◌≢◌, ◌⊎◌, inl, inr, ℕ, zero, suc, ◌<◌, true, false, List, [], ◌∷◌, ◌++◌, map, length, set, refl, sym, ap}
use Rattle.std.proofs.Common.{◌∙◌, subst, arith, Option, Some, None}
use Rattle.std.specs.Prelude.{slice_get}
use mathlib.Core.Logic.{dite}
use mathlib.Core.Option.{none, some}
use native.Mathlib.Decide.{ℕ_discrete}
use lib.ListN.{get_elem?}
use Rattle.atomic_table.specs.Table as table
use Rattle.atomic_table.specs.Table.{Me, step, gives, stepped, Allows, rest}
use Rattle.atomic_table.proofs.Lists.{set_here}
use Rattle.jade_base.specs.Held.{Held}
use Rattle.jade_base.specs.declared.rights.Mode.{Mode}
use Rattle.jade_base.specs.declared.rights.Mode.TheVariants.{Reading, Writing, Commuting}
use Rattle.jade_meaning.specs.Talk.{Event, Enter, Enroll, Take, TouchRead, TouchWrite, Wants, Give, Leave, Shift, Resign}
use Rattle.jade_meaning.specs.Walk.{upcoming, First}
use Rattle.object_shelf.specs.declared.queue.Entry.{Entry}
use Rattle.object_shelf.specs.Views.{ObjectView, ShelfView}
use Rattle.object_shelf.specs.Shelves.{same_path, takes_out, keeper_in, at, without, entered_in, taken, given, entered, shifted, left}
use Rattle.object_shelf.specs.Shelves.{with_rights}
use Rattle.object_shelf.specs.Homes.{hand_in, handed, returned, on_queue}
use Rattle.task_roll.specs.declared.note.PartNote.{PartNote}
use Rattle.schedule_core.specs.Notes.{noted}
use Rattle.schedule_core.specs.ByNumber.{shelf_at}
use Rattle.schedule_core.specs.Plain.{seat_after, on_shelf, blocked_at, Does}
use Rattle.schedule_core.specs.Tells.{CoreTells, EntriesAreThere, MayTake, MayGive}
use Rattle.jade_meaning.specs.Plan.{RunPlan}
use Rattle.object_table.specs.Views.{count_of, word_of, View, core_notes, shelf_of, gathered}
use Rattle.object_table.specs.Touches.{held_at, put_held, is_touch, touches_first, touch_next, passed, all_touches}
use Rattle.object_table.specs.Rule.{hold_of, HeldOk, Agrees, Ruled}
use Rattle.object_table.specs.Plays.{held_in, handed_by, did, Ahead, OneEvent, left_done}
use Rattle.object_table.specs.steps.Kept.{Made, Once}
use Rattle.object_table.specs.declared.slot.Slot.{Slot}
use Rattle.object_table.specs.declared.slot.Slot.TheVariants as slot
use Rattle.object_table.proofs.Sizes.{how_many}
use Rattle.object_table.proofs.Lists.{shelf_on, shelf_within, shelf_else, held_here, held_else, at_inside}
use Rattle.object_table.proofs.Entries.{some_entry}
use Rattle.object_table.proofs.Goes.{SamePurse, parts0, leaving}
use Rattle.object_table.proofs.Quiet.{on, lives, found, seat_on, quiet, part_else, part_here}
use Rattle.object_table.proofs.Touching.{and_left, and_right, set_set, passing, passed_same}
use Rattle.object_table.proofs.Effects.{take_shows, take_mine, take_others, give_shows, give_mine, give_others, enter_shows, enter_mine, enter_others}
use Rattle.object_table.proofs.Effects.{shift_shows, shift_mine, shift_others, leave_shows, leave_mine, leave_others}

blocked_is : (o : ℕ) (q : List ℕ) (m : Mode) (ss : List ObjectView) → blocked_at o q m ss ≡ keeper_in q m (shelf_at ss o).queue
blocked_is o q Reading [] = refl
blocked_is o q Writing [] = refl
blocked_is o q Commuting [] = refl
blocked_is zero q m (s ∷ ss) = refl
blocked_is (suc o) q m (s ∷ ss) = blocked_is o q m ss

same_object : (y z : ShelfView) → slot.Object y ≡ slot.Object z → y ≡ z
same_object y z e = cc

module _ (key : RunPlan) (tells : CoreTells key.program key.numbers key.limit) (entries : EntriesAreThere key.program key.numbers key.limit) (once : Once key)
    (s : table.State Slot View) (h : Ruled key s) (id : ℕ) (v : View) (at_v : get_elem? s.views id ≡ some v) (alive : v.live ≡ true) (turn : v.turn
    ≡ true) (o : ℕ) (place : v.place ≡ o) (object : o ≢ count_of key) where
  abbrev n : ℕ
  n = count_of key

  abbrev x : ObjectView
  x = shelf_at h.shelves o

  note_is : v.note ≡ slot.Object (shelf_of x)
  note_is = ((h.passes id v at_v).turn turn).found ∙ ap (parts0 n key s h id v at_v) place ∙ found n key s h id v at_v alive o object

  held : Agrees v.seat.path h.shelves v.held
  held = (h.passes id v at_v).sits.held alive

  seat_here : slice_get (map h.seats h.owners) (length (on n key s h id v at_v alive).spot.front) ≡ Some v.seat
  seat_here = seat_on n key s h id v at_v alive _ v.seat (on n key s h id v at_v alive)

  inside : o < length h.shelves
  inside =
      let many : length h.shelves ≡ n = how_many key h.count (map h.seats h.owners) h.shelves (core_notes (gathered h.tally s.views)) h.reached in
      let low = ((h.passes id v at_v).turn turn).inside in
      omega (arith, many, low, place, object)

  module _ (carried : List (ℕ × Slot)) (new : Slot) (has : carried ≡ (o, new) ∷ rest carried) where
    -- an event on the object that makes g of it
    module _ (e : Event) (g : ObjectView → ObjectView) (here : shelf_at (on_shelf o g h.shelves) o ≡ g x) (held2 : List (Option Held)) (next : First (upcoming v.seat.walker) (λ y. y
        ≡ e)) (does : Does e v.seat h.shelves (seat_after None v.seat ∷ []) (on_shelf o g h.shelves)) (silent : (ns : List PartNote) → noted e v.seat ns
        ≡ ns) (others : (q : List ℕ) → same_path q v.seat.path ≡ false → same_path q (v.seat.path ++ v.seat.children ∷ []) ≡ false → (k : Option Held)
        → HeldOk q x k → HeldOk q (g x) k) (own : HeldOk v.seat.path (g x) (held_at o held2)) (more : (i : ℕ) → i ≢ o → held_at i held2
        ≡ held_at i v.held) (shows : new ≡ slot.Object (shelf_of (g x))) where
      abbrev w : View
      w = record v { seat = seat_after None v.seat; held = held2; turn = false }

      untouched : SamePurse v w
      untouched = record { tickets = refl; notes = refl; over = refl }

      abbrev ss2 : List ObjectView
      ss2 = on_shelf o g h.shelves

      mine : Agrees v.seat.path ss2 held2
      mine = record {
        each = λ i. dite (ℕ_discrete i o)
            (λ same. subst (λ j. HeldOk v.seat.path (shelf_at ss2 j) (held_at j held2)) (sym same)
            (subst (λ y. HeldOk v.seat.path y (held_at o held2)) (sym here) own))
            (λ ne. subst (λ y. HeldOk v.seat.path y (held_at i held2)) (sym (shelf_else o i g h.shelves ne))
            (subst (λ y. HeldOk v.seat.path (shelf_at h.shelves i) y) (sym (more i ne)) (held.each i)));
      }

      far : (q : List ℕ) → same_path q v.seat.path ≡ false → same_path q (v.seat.path ++ v.seat.children ∷ []) ≡ false → (hs : List (Option Held))
          → Agrees q h.shelves hs → Agrees q ss2 hs
      far q off kin hs a = record {
        each = λ i. dite (ℕ_discrete i o)
            (λ same. subst (λ j. HeldOk q (shelf_at ss2 j) (held_at j hs)) (sym same)
            (subst (λ y. HeldOk q y (held_at o hs)) (sym here) (others q off kin (held_at o hs) (a.each o))))
            (λ ne. subst (λ y. HeldOk q y (held_at i hs)) (sym (shelf_else o i g h.shelves ne)) (a.each i));
      }

      pub on_object : Ruled key (stepped s (word_of o) 0 id carried w gives)
      on_object =
          leaving n key s h id v at_v w (quiet n key s h id v at_v alive tells e (seat_after None v.seat) ss2 w next does silent refl refl refl refl refl untouched
          far mine) o turn place carried new has refl
          (part_here n key s h id v at_v alive tells e (seat_after None v.seat) ss2 w next does silent refl refl refl refl refl untouched far mine o object new
          (shows ∙ ap (λ y. slot.Object (shelf_of y)) (sym here)))
          (λ i ne. part_else n key s h id v at_v alive tells e (seat_after None v.seat) ss2 w next does silent refl refl refl refl refl untouched far mine i
          (ap shelf_of (sym (shelf_else o i g h.shelves ne))))

    found_is : (y : ShelfView) → v.note ≡ slot.Object y → y ≡ shelf_of x
    found_is y e = same_object y (shelf_of x) (sym e ∙ note_is)

    -- an event of the pass's task is one of the core
    occurs : (e : Event) (after : List ObjectView) → First (upcoming v.seat.walker) (λ z. z ≡ e)
        → Does e v.seat h.shelves (seat_after None v.seat ∷ []) after → (y : ShelfView) → v.note ≡ slot.Object y → OneEvent e o y v
    occurs e after next does y note = record {
      seen = record { core = lives n key s h id v at_v alive; is = found_is y note };
      next = next;
      after = after;
      does = does;
    }

    -- and so is the one that was made of the slot
    pub event_is : (e : Event) → First (upcoming v.seat.walker) (λ z. z ≡ e) → Made o e v new → (y : ShelfView) → v.note ≡ slot.Object y → OneEvent e o y v
    event_is (Take q m) next (same, z, note, free, made) y is =
        let clear : keeper_in v.seat.path m x.queue ≡ None = ap (λ (w : ShelfView). keeper_in v.seat.path m w.queue) (sym (found_is z note)) ∙ free in
        subst (λ i. OneEvent (Take i m) o y v) (sym same)
        (occurs (Take o m) (on_shelf o (taken v.seat.path m) h.shelves) (subst (λ i. First (upcoming v.seat.walker) (λ z. z ≡ Take i m)) same next)
        (blocked_is o v.seat.path m h.shelves ∙ clear, refl, refl) y is)
    event_is (Give q) next (same, z, c, note, has_it, made) y is =
        subst (λ i. OneEvent (Give i) o y v) (sym same)
        (occurs (Give o) (on_shelf o (given v.seat.path) h.shelves) (subst (λ i. First (upcoming v.seat.walker) (λ z. z ≡ Give i)) same next) (refl, refl) y is)
    event_is (Enter q a) next (same, z, note, made) y is =
        subst (λ i. OneEvent (Enter i a) o y v) (sym same)
        (occurs (Enter o a) (on_shelf o (entered v.seat.path (v.seat.path ++ v.seat.children ∷ []) a) h.shelves)
        (subst (λ i. First (upcoming v.seat.walker) (λ z. z ≡ Enter i a)) same next) (refl, refl) y is)
    event_is (Shift q a) next (same, z, note, made) y is =
        subst (λ i. OneEvent (Shift i a) o y v) (sym same)
        (occurs (Shift o a) (on_shelf o (shifted v.seat.path a) h.shelves) (subst (λ i. First (upcoming v.seat.walker) (λ z. z ≡ Shift i a)) same next)
        (refl, refl) y is)
    event_is (Leave q) next (same, z, note, made) y is =
        subst (λ i. OneEvent (Leave i) o y v) (sym same)
        (occurs (Leave o) (on_shelf o (left v.seat.path) h.shelves) (subst (λ i. First (upcoming v.seat.walker) (λ z. z ≡ Leave i)) same next) (refl, refl) y
        is)
    event_is (Enroll t m) next made y is = absurd made
    event_is (Resign c m) next made y is = absurd made
    event_is (TouchRead q c z) next made y is = absurd made
    event_is (TouchWrite q c z) next made y is = absurd made
    event_is (Wants q c) next made y is = absurd made

    -- the event that was made of the slot is done
    pub event_on : (e : Event) → First (upcoming v.seat.walker) (λ y. y ≡ e) → Made o e v new → Ruled key (stepped s (word_of o) 0 id carried (did e v) gives)
    event_on (Take q m) next (same, y, note, free, made) =
        let is : y ≡ shelf_of x = found_is y note in
        let clear : keeper_in v.seat.path m x.queue ≡ None = ap (λ (z : ShelfView). keeper_in v.seat.path m z.queue) (sym is) ∙ free in
        let next' : First (upcoming v.seat.walker) (λ z. z ≡ Take o m) = subst (λ i. First (upcoming v.seat.walker) (λ z. z ≡ Take i m)) same next in
        let may : MayTake m v.seat.path x.queue = tells.takes h.count (map h.seats h.owners) h.shelves (core_notes (gathered h.tally s.views)) h.reached _ v.seat seat_here o m
        next' clear in
        let now : Option Held = held_in m (hand_in v.seat.path m (shelf_of x)) in
        let handed_is : held_in m (handed_by v.seat.path m v.note) ≡ now = ap (λ z. held_in m (handed_by v.seat.path m z)) note_is in
        subst (λ i. Ruled key (stepped s (word_of o) 0 id carried (did (Take i m) v) gives)) (sym same)
        (subst (λ k. Ruled key (stepped s (word_of o) 0 id carried (record v {
          seat = seat_after None v.seat;
          held = put_held o k v.held;
          turn =
              false;
        }) gives)) (sym handed_is)
        (on_object (Take o m) (taken v.seat.path m) (shelf_within o (taken v.seat.path m) h.shelves inside) (put_held o now v.held) next' (blocked_is o v.seat.path m h.shelves ∙ clear, refl, refl) (λ ns. refl)
        (λ r off kin k a. take_others v.seat.path x m r off k a)
        (subst (λ k. HeldOk v.seat.path (taken v.seat.path m x) k) (sym (held_here o now v.held)) (take_mine v.seat.path x m may))
        (λ i ne. held_else o i now v.held ne)
        (made ∙ ap (λ z. slot.Object (handed v.seat.path m z)) is ∙ ap slot.Object (take_shows v.seat.path x m may))))
    event_on (Give q) next (same, y, c, note, has_it, made) =
        let is : y ≡ shelf_of x = found_is y note in
        let next' : First (upcoming v.seat.walker) (λ z. z ≡ Give o) = subst (λ i. First (upcoming v.seat.walker) (λ z. z ≡ Give i)) same next in
        let may : MayGive v.seat.path x.queue = entries.gives h.count (map h.seats h.owners) h.shelves (core_notes (gathered h.tally s.views)) h.reached _ v.seat seat_here o
        next' in
        let holds : HeldOk v.seat.path x (Some c) = subst (λ k. HeldOk v.seat.path x k) has_it (held.each o) in
        subst (λ i. Ruled key (stepped s (word_of o) 0 id carried (did (Give i) v) gives)) (sym same)
        (on_object (Give o) (given v.seat.path) (shelf_on o (given v.seat.path) h.shelves refl) (put_held o None v.held) next' (refl, refl) (λ ns. refl)
        (λ r off kin k a. give_others v.seat.path x r off k a)
        (subst (λ k. HeldOk v.seat.path (given v.seat.path x) k) (sym (held_here o None v.held)) (give_mine v.seat.path x may.entry may.there))
        (λ i ne. held_else o i None v.held ne)
        (made ∙ ap (λ z. slot.Object (returned v.seat.path c z)) is
        ∙ ap slot.Object (give_shows v.seat.path x c holds (λ a f t. may.home (ap (λ (z : Entry). takes_out z.hold) (some_entry may.entry a (sym may.there
        ∙ f)) ∙ t)))))
    event_on (Enter q a) next (same, y, note, made) =
        let is : y ≡ shelf_of x = found_is y note in
        let next' : First (upcoming v.seat.walker) (λ z. z ≡ Enter o a) = subst (λ i. First (upcoming v.seat.walker) (λ z. z ≡ Enter i a)) same next in
        on_object (Enter o a) (entered v.seat.path (v.seat.path ++ v.seat.children ∷ []) a) (shelf_on o (entered v.seat.path (v.seat.path ++ v.seat.children ∷ []) a) h.shelves refl) v.held next' (refl, refl) (λ ns. refl)
        (λ r off kin k b. enter_others v.seat.path x v.seat.children a r kin k b)
        (enter_mine v.seat.path x v.seat.children a (held_at o v.held) (held.each o)) (λ i ne. refl)
        (made ∙ ap (λ z. slot.Object (on_queue (entered_in v.seat.path (v.seat.path ++ v.seat.children ∷ []) a) z)) is
        ∙ ap slot.Object (enter_shows v.seat.path x v.seat.children a))
    event_on (Shift q a) next (same, y, note, made) =
        let is : y ≡ shelf_of x = found_is y note in
        let next' : First (upcoming v.seat.walker) (λ z. z ≡ Shift o a) = subst (λ i. First (upcoming v.seat.walker) (λ z. z ≡ Shift i a)) same next in
        let may = entries.shifts h.count (map h.seats h.owners) h.shelves (core_notes (gathered h.tally s.views)) h.reached _ v.seat seat_here o a next' in
        on_object (Shift o a) (shifted v.seat.path a) (shelf_on o (shifted v.seat.path a) h.shelves refl) v.held next' (refl, refl) (λ ns. refl)
        (λ r off kin k b. shift_others v.seat.path x a r off k b)
        (shift_mine v.seat.path x a may.entry may.there (held_at o v.held) (held.each o)) (λ i ne. refl)
        (made ∙ ap (λ z. slot.Object (on_queue (at v.seat.path (with_rights a)) z)) is ∙ ap slot.Object (shift_shows v.seat.path x a))
    event_on (Leave q) next (same, y, note, made) =
        let is : y ≡ shelf_of x = found_is y note in
        let next' : First (upcoming v.seat.walker) (λ z. z ≡ Leave o) = subst (λ i. First (upcoming v.seat.walker) (λ z. z ≡ Leave i)) same next in
        let may = entries.leaves h.count (map h.seats h.owners) h.shelves (core_notes (gathered h.tally s.views)) h.reached _ v.seat seat_here o next' in
        on_object (Leave o) (left v.seat.path) (shelf_on o (left v.seat.path) h.shelves refl) v.held next' (refl, refl) (λ ns. refl)
        (λ r off kin k b. leave_others v.seat.path x r off k b)
        (leave_mine v.seat.path x may.entry may.there may.free
        (ap hold_of (once.each h.count (map h.seats h.owners) h.shelves (core_notes (gathered h.tally s.views)) h.reached o v.seat.path)) (held_at o v.held) (held.each o))
        (λ i ne. refl)
        (made ∙ ap (λ z. slot.Object (on_queue (without v.seat.path) z)) is ∙ ap slot.Object (leave_shows v.seat.path x may.entry may.there may.free))
    event_on (Enroll t m) next made = absurd made
    event_on (Resign b m) next made = absurd made
    event_on (TouchRead q c z) next made = absurd made
    event_on (TouchWrite q c z) next made = absurd made
    event_on (Wants q c) next made = absurd made

less_or : (j k : ℕ) → (j < k) ⊎ (k < suc j)
less_or j zero = inr (omega arith)
less_or zero (suc k) = inl (omega arith)
less_or (suc j) (suc k) = go (less_or j k)
  where
    go : (j < k) ⊎ (k < suc j) → (suc j < suc k) ⊎ (suc k < suc (suc j))
    go (inl lt) = inl (omega arith)
    go (inr le) = inr (omega arith)

-- the next event after the touches is one, after so many touches
touch_before : (k j : ℕ) (v : View) → all_touches k v ≡ true → j < k → touch_next (passed j v) ≡ true
touch_before zero j v all lt = absurd (omega arith)
touch_before (suc k) j v all lt = dite (ℕ_discrete j k)
    (λ same. subst (λ i. touch_next (passed i v) ≡ true) (sym same) (and_right (all_touches k v) (touch_next (passed k v)) all))
    (λ ne. touch_before k j v (and_left (all_touches k v) (touch_next (passed k v)) all) (omega (arith, ne)))

first_touch : (l : List Event) (e : Event) → First l (λ x. x ≡ e) → touches_first l ≡ is_touch e
first_touch [] e f = absurd f
first_touch (x ∷ l) e f = ap is_touch f

first_once : (l : List Event) (e d : Event) → First l (λ x. x ≡ e) → First l (λ x. x ≡ d) → e ≡ d
first_once [] e d a b = absurd a
first_once (x ∷ l) e d a b = sym a ∙ b

stops : (k : ℕ) (e : Event) (v : View) → Ahead k e v → touch_next (passed k v) ≡ false
stops k e v a = first_touch (upcoming (passed k v).seat.walker) e a.next ∙ a.public

not_before : (k j : ℕ) (e d : Event) (v : View) → Ahead k e v → Ahead j d v → j < k → ⊥
not_before k j e d v a b lt = absurd (let r : false ≡ true = sym (stops j d v b) ∙ touch_before k j v a.touches lt in cc)

pub ahead_once : (k j : ℕ) (e d : Event) (v : View) → Ahead k e v → Ahead j d v → (k ≡ j) × (e ≡ d)
ahead_once k j e d v a b =
    let same : k ≡ j = dite (ℕ_discrete k j) (λ q. q) (λ ne. absurd (apart ne)) in
    (same, first_once (upcoming (passed j v).seat.walker) e d (subst (λ i. First (upcoming (passed i v).seat.walker) (λ x. x ≡ e)) same a.next) b.next)
  where
    apart : k ≢ j → ⊥
    apart ne = go (less_or j k)
      where
        go : (j < k) ⊎ (k < suc j) → ⊥
        go (inl lt) = not_before k j e d v a b lt
        go (inr le) = not_before j k d e v b a (omega (arith, ne))

-- a turn left with the event done
pub finishing : (key : RunPlan) → CoreTells key.program key.numbers key.limit → EntriesAreThere key.program key.numbers key.limit → Once key
    → (slots id o : ℕ) (me : Me Slot View) (new : Slot) → me.0.live ≡ true → me.0.turn ≡ true → me.0.place ≡ o → o < count_of key → me.1
    ≡ (o, new) ∷ rest me.1 → (k : ℕ) (e : Event) → Ahead k e me.0 → Made o e (passed k me.0) new
    → Allows (Ruled key) slots id me (word_of o) (λ x. 0) (λ x. left_done (step slots (word_of o) 0 0 none) me 0)
finishing key tells entries once slots id o me new alive turn place lt has k e ahead made s h _ at _ =
    let v = passed k me.0 in
    let same = passed_same k me.0 in
    let s' : table.State Slot View = record { words = s.words; homes = s.homes; views = set s.views id v } in
    let h' : Ruled key s' = passing (count_of key) key s h id me.0 at alive tells k ahead.touches in
    let object : o ≢ count_of key = λ q. absurd (omega (arith, q)) in
    let there = set_here s.views id v (at_inside s.views id me.0 at) in
    let live : v.live ≡ true = same.live ∙ alive in
    let in_turn : v.turn ≡ true = same.turn ∙ turn in
    let here : v.place ≡ o = same.place ∙ place in
    let one : (x : ShelfView) → me.0.note ≡ slot.Object x → OneEvent e me.0.place x v = λ x note.
    subst (λ i. OneEvent e i x v) (sym place)
    (event_is key tells entries once s' h' id v there live in_turn o here object me.1 new has e ahead.next made x (same.note ∙ note)) in (
      did e v,
      gives,
      tt,
      subst (λ l. Ruled key (record { words = set s.words (word_of o) 0; homes = table.put_back s.homes me.1; views = l })) (set_set s.views id v (did e v))
          (event_on key tells entries once s' h' id v there live in_turn o here object me.1 new has e ahead.next made),
      (
        (λ j d other. let q = ahead_once k j e d me.0 ahead other in (
          (λ i. did (q.1 i) (passed (q.0 i) me.0)),
          λ x note. subst (λ (z : ℕ × Event). OneEvent z.1 me.0.place x (passed z.0 me.0)) (λ i. (q.0 i, q.1 i)) (one x note),
        )),
        refl,
      ),
    )
