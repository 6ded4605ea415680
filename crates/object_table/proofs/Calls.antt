-- What a pass shows once a call has left its turn.
use Rattle.std.proofs.Common.{
  ◌≡◌,
  ◌≢◌,
  ℕ,
  zero,
  suc,
  ◌<◌,
  ◌+◌,
  ◌%◌,
  ◌^◌,
  Bool,
  true,
  false,
  ◌&&◌,
  List,
  [],
  ◌∷◌,
  ◌++◌,
  length,
  refl,
  sym,
  ap,
  ◌∙◌,
  subst,
  arith,
}
use Rattle.std.proofs.Common.{eq-eqb, ne_eqb, Option, Some, None}
use Rattle.std.specs.Prelude.{ℤ, nat_eq, slice_get, if◌then◌else◌}
use mathlib.Core.Logic.{dite}
use mathlib.Core.Option.{none}
use native.Mathlib.Decide.{ℕ_discrete}
use Rattle.atomic_table.specs.Table.{Me, step, rest}
use Rattle.atomic_table.specs.declared.shared.Seat.{Seat}
use Rattle.jade_base.specs.Held.{Held}
use Rattle.jade_base.specs.declared.rights.Mode.{Mode}
use Rattle.jade_syntax.specs.Objects.{sizes}
use Rattle.jade_meaning.specs.Talk.{Event, Enter, Enroll, Take, TouchRead, TouchWrite, Wants, Give, Leave, Shift, Resign}
use Rattle.jade_meaning.specs.Walk.{upcoming, First}
use Rattle.object_shelf.specs.Views.{ShelfView}
use Rattle.object_shelf.specs.Homes.{hand_in}
use Rattle.schedule_core.specs.declared.steps.Seat.{Seat as Place}
use Rattle.schedule_core.specs.ByNumber.{shelf_at}
use Rattle.schedule_core.specs.Plain.{seat_after}
use Rattle.jade_meaning.specs.Plan.{RunPlan}
use Rattle.object_table.specs.Views.{count_of, View, shelf_of, core_notes}
use Rattle.object_table.specs.Touches.{is_touch, touched_first, touched, touch_next, passed, all_touches}
use Rattle.object_table.specs.Plays.{Told, tried_at, in_turn, turned_off, Lives, Seen, left_as_it_was, did, Ahead, OneEvent, left_done}
use Rattle.object_table.specs.Calls.{Next, saw, found_busy, AsBefore}
use Rattle.object_table.specs.steps.Kept.{Rests, InTurn, Leaves, Laws, Made, Youngest, shown, IsObject}
use Rattle.object_table.specs.declared.task.Task.{Task}
use Rattle.object_table.specs.declared.slot.Slot.{Slot}
use Rattle.object_table.specs.declared.slot.Slot.TheVariants as slot
use Rattle.object_table.proofs.Desisting.{desisting}
use Rattle.object_table.proofs.Touching.{passed_same, Same}
use Rattle.object_table.proofs.Finishing.{finishing}
use Rattle.object_table.proofs.Owners.{none_some}
use Rattle.object_table.proofs.Sizes.{got_sized}

-- a task has what its view says, and its view has what it needs
pub record Purse (t : Task) (w : View) : Type 0 where
  pub tickets : t.tickets ≡ w.tickets
  pub notes : t.notes ≡ w.notes
  pub fed : w.live ≡ true → 0 < w.tickets
  pub rich : (s : Place) → w.unborn ≡ Some s → 1 < w.tickets

-- a view with another side of the table's
abbrev pub on_try : Bool → (tries place word : ℕ) → Slot → View → View
on_try b t o r y v = record v { turn = b; tries = t; place = o; word = r; note = y }

module _ (b : Bool) (t o r : ℕ) (y : Slot) where
  touch_try : (l : List Event) (v : View) → touched_first l (on_try b t o r y v) ≡ on_try b t o r y (touched_first l v)
  touch_try [] v = refl
  touch_try (Wants q c ∷ es) v = refl
  touch_try (TouchWrite q c x ∷ es) v = refl
  touch_try (TouchRead q c x ∷ es) v = refl
  touch_try (Enter q a ∷ es) v = refl
  touch_try (Enroll s m ∷ es) v = refl
  touch_try (Take q m ∷ es) v = refl
  touch_try (Give q ∷ es) v = refl
  touch_try (Leave q ∷ es) v = refl
  touch_try (Shift q a ∷ es) v = refl
  touch_try (Resign f m ∷ es) v = refl

  pub passed_try : (k : ℕ) (v : View) → passed k (on_try b t o r y v) ≡ on_try b t o r y (passed k v)
  passed_try zero v = refl
  passed_try (suc k) v = ap touched (passed_try k v) ∙ touch_try (upcoming (passed k v).seat.walker) (passed k v)

  pub all_try : (k : ℕ) (v : View) → all_touches k (on_try b t o r y v) ≡ all_touches k v
  all_try zero v = refl
  all_try (suc k) v = ap (λ c. c && touch_next (passed k (on_try b t o r y v))) (all_try k v) ∙ ap (λ w. all_touches k v && touch_next w) (passed_try k v)

-- an object's slot shows an object
pub object_there : (slots : ℕ) (v : View) (o : ℕ) (y : Slot) (key : RunPlan) → slots ≡ suc (count_of key) → o < count_of key → Told slots v o y → IsObject y
object_there slots v o y key deep lt told =
    let n : told.objects ≡ count_of key = let a = told.sized in omega (arith, deep) in
    let ne : o ≢ told.objects = λ e. absurd (omega (arith, e, n, lt)) in
    subst IsObject
    (sym (told.shows ∙ ap (λ z. if z then slot.Roll told.tally else slot.Object (shelf_of (shelf_at told.shelves o))) (ne_eqb o told.objects ne))) tt

-- what is handed out of an object has as many cells as the program says
pub told_sized : (slots : ℕ) (v : View) (o : ℕ) (y : Slot) → Told slots v o y → (z : ShelfView) → y ≡ slot.Object z → (p : List ℕ) (m : Mode) (xs : List ℤ)
    → hand_in p m z ≡ Some xs → slice_get (sizes v.key.program.items) o ≡ Some (length xs)
told_sized slots v o y told z is p m xs got = dite (ℕ_discrete o told.objects)
    (λ same. absurd (no_roll (sym is ∙ shown_as true (eq-eqb o told.objects same))))
    (λ ne. got_sized v.key told.count (told.front ++ (v.seat ∷ told.back)) told.shelves (core_notes told.notes) told.reached o p m xs
    (ap (hand_in p m) (sym (object_is z (shelf_of (shelf_at told.shelves o)) (sym is ∙ shown_as false (ne_eqb o told.objects ne)))) ∙ got))
  where
    shown_as : (b : Bool) → nat_eq o told.objects ≡ b → y ≡ (if b then slot.Roll told.tally else slot.Object (shelf_of (shelf_at told.shelves o)))
    shown_as b e = told.shows ∙ ap (λ c. if c then slot.Roll told.tally else slot.Object (shelf_of (shelf_at told.shelves o))) e

    no_roll : slot.Object z ≡ slot.Roll told.tally → ⊥
    no_roll e = cc

    object_is : (a b : ShelfView) → slot.Object a ≡ slot.Object b → a ≡ b
    object_is a b e = cc

-- a core is the same for a pass with another side of the table's
abbrev pub lives_on : (b : Bool) (t o r : ℕ) (y : Slot) (v : View) → Lives (on_try b t o r y v) → Lives v
lives_on b t o r y v c = record {
  count = c.count;
  front = c.front;
  back = c.back;
  shelves = c.shelves;
  notes = c.notes;
  reached = c.reached;
  held = c.held;
}

abbrev pub seen_on : (b : Bool) (t o r : ℕ) (y : Slot) (v : View) (q : ℕ) (x : ShelfView) → Seen q x (on_try b t o r y v) → Seen q x v
seen_on b t o r y v q x s = record { core = lives_on b t o r y v s.core; is = s.is }

next_event : (l : List Event) (e d : Event) → First l (λ x. x ≡ e) → First l (λ x. x ≡ e)
next_event l e d f = f

module _ (t : Task) (r : Rests t) where
  abbrev v0 : View
  v0 = t.seat.me.0

  abbrev v : View
  v = shown t

  same : Same v0 v
  same = passed_same t.touched v0

  -- only the table's side of the view has changed
  pub tried_rests : (seat : Seat Slot View) (n o w : ℕ) (y : Slot) → seat.me ≡ (on_try false n o w y v0, []) → Rests (record t { seat = seat })
  tried_rests seat n o w y is =
      let to : (P : Me Slot View → Type 0) → P (on_try false n o w y v0, []) → P seat.me = λ P p. subst P (sym is) p in
      record {
        holds = ap (λ (m : Me Slot View). m.1) is;
        idle = ap (λ (m : Me Slot View). m.0.turn) is;
        touches = to (λ m. all_touches t.touched m.0 ≡ true) (all_try false n o w y t.touched v0 ∙ r.touches);
        path = to (λ m. t.path ≡ m.0.seat.path) r.path;
        spare = to (λ m. m.0.live ≡ true → t.spare ≡ Some t.path) r.spare;
        children = to (λ m. t.children ≡ m.0.seat.children) r.children;
        events = to (λ m. t.events ≡ (passed t.touched m.0).seat.walker.done % 2 ^ 64) (r.events
            ∙ ap (λ (z : View). z.seat.walker.done % 2 ^ 64) (sym (passed_try false n o w y t.touched v0)));
        over = to (λ m. t.over ≡ m.0.over) r.over;
        tickets = to (λ m. t.tickets ≡ m.0.tickets) r.tickets;
        notes = to (λ m. t.notes ≡ m.0.notes) r.notes;
        fed = to (λ m. m.0.live ≡ true → 0 < m.0.tickets) r.fed;
        rich = to (λ m. (k : Place) → m.0.unborn ≡ Some k → 1 < m.0.tickets) r.rich;
        kid = to (λ m. (k : Place) → m.0.unborn ≡ Some k → Youngest m.0.seat.path m.0.seat.children k) r.kid;
      }

  pub tried_shown : (seat : Seat Slot View) (n o w : ℕ) (y : Slot) → seat.me ≡ (on_try false n o w y v0, []) → shown (record t { seat = seat })
      ≡ on_try false n o w y v
  tried_shown seat n o w y is = ap (λ (m : Me Slot View). passed t.touched m.0) is ∙ passed_try false n o w y t.touched v0

  -- the fields are what is shown
  pub path_is : t.path ≡ v.seat.path
  path_is = r.path ∙ sym same.path

  pub over_is : t.over ≡ v.over
  over_is = r.over ∙ sym same.over

  pub tickets_is : t.tickets ≡ v.tickets
  tickets_is = r.tickets ∙ sym same.tickets

  pub notes_is : t.notes ≡ v.notes
  notes_is = r.notes ∙ sym same.notes

  pub children_is : t.children ≡ v.seat.children
  children_is = r.children ∙ sym same.children

  pub tries_same : suc v0.tries ≡ suc v.tries
  tries_same = ap suc (sym same.tries)

  pub idle_same : false ≡ v.turn
  idle_same = sym r.idle ∙ sym same.turn

  -- another had the turn
  pub busy_is : (seat : Seat Slot View) (o : ℕ) → seat.me ≡ (tried_at o 1 v0, []) → seat.me ≡ (on_try false (suc v0.tries) o 1 v0.note v0, [])
  busy_is seat o is = is ∙ ap (λ b. (on_try b (suc v0.tries) o 1 v0.note v0, [])) r.idle

  pub busy_shown : (seat : Seat Slot View) (o : ℕ) → seat.me ≡ (tried_at o 1 v0, []) → shown (record t { seat = seat }) ≡ found_busy o v
  busy_shown seat o is = tried_shown seat (suc v0.tries) o 1 v0.note (busy_is seat o is) ∙ λ i. on_try (idle_same i) (tries_same i) o 1 (sym same.note i) v

  -- nothing was done in the turn
  module _ (seat1 seat2 : Seat Slot View) (slots o : ℕ) (y new : Slot) (turn : InTurn slots o y new t.seat.me seat1.me)
      (left : left_as_it_was (step slots o 0 0 none) seat1.me 0 seat2.me) where
    pub off_is : seat2.me ≡ (on_try false (suc v0.tries) o 0 y v0, [])
    off_is = left.0 ∙ ap (λ (m : Me Slot View). (turned_off m.0, rest m.1)) turn.me

    pub off_shown : (z : ShelfView) → y ≡ slot.Object z → shown (record t { seat = seat2 }) ≡ saw o z v
    off_shown z is = tried_shown seat2 (suc v0.tries) o 0 y off_is ∙ λ i. on_try (idle_same i) (tries_same i) o 0 (is i) v

    pub off_before : AsBefore v (shown (record t { seat = seat2 }))
    off_before =
        let e = tried_shown seat2 (suc v0.tries) o 0 y off_is in
        record {
          same = subst (λ (w : View). w ≡ record v {
            tries = w.tries;
            place = w.place;
            word = w.word;
            note =
                w.note;
          }) (sym e) (ap (λ b. on_try b (suc v0.tries) o 0 y v) idle_same);
        }

    -- what the slot of an object showed is what a core shows of it in which the task lives
    pub off_seen : v.live ≡ true → (z : ShelfView) → y ≡ slot.Object z → Seen o z v
    off_seen live z is =
        let told : (k : ℕ) → all_touches k (in_turn o y v0) ≡ true → v0.live ≡ true → (x : ShelfView) → y ≡ slot.Object x
        → Seen o x (passed k (in_turn o y v0)) =
        subst (λ (m : Me Slot View). (k : ℕ) → all_touches k m.0 ≡ true → m.0.live ≡ true → (x : ShelfView) → m.0.note ≡ slot.Object x
        → Seen m.0.place x (passed k m.0)) turn.me left.1 in
        let h = told t.touched (all_try true (suc v0.tries) o 0 y t.touched v0 ∙ r.touches) (sym same.live ∙ live) z is in
        seen_on true (suc v0.tries) o 0 y v o z (subst (λ (w : View). Seen o z w) (passed_try true (suc v0.tries) o 0 y t.touched v0) h)

  -- the next event of what is shown comes after the touches of what the seat shows
  pub ahead_is : (e : Event) → is_touch e ≡ false → Next e v → (n o w : ℕ) (y : Slot) → Ahead t.touched e (on_try true n o w y v0)
  ahead_is e public next n o w y = record {
    touches = all_try true n o w y t.touched v0 ∙ r.touches;
    next = subst (λ (z : View). First (upcoming z.seat.walker) (λ x. x ≡ e)) (sym (passed_try true n o w y t.touched v0)) next.first;
    public = public;
  }

  pub alive_is : v.live ≡ true → v0.live ≡ true
  alive_is live = sym same.live ∙ live

  pub alive : (e : Event) → Next e v → v0.live ≡ true
  alive e next = alive_is next.live

  -- a turn may be left with nothing done
  pub may_desist : (slots : ℕ) (seat1 : Seat Slot View) (o : ℕ) (y new : Slot) → InTurn slots o y new t.seat.me seat1.me → (key : RunPlan) → Laws key
      → new ≡ y → Leaves left_as_it_was key slots seat1.id seat1.me o
  may_desist slots seat1 o y new turn key laws same =
      subst (λ (m : Me Slot View). Leaves left_as_it_was key slots seat1.id m o) (sym turn.me)
      (desisting key slots seat1.id o (in_turn o y v0, (o, new) ∷ []) new (λ x e. laws.tells) refl refl refl same)

  module _ (key : RunPlan) (laws : Laws key) (slots : ℕ) (seat1 : Seat Slot View) (o : ℕ) (y new : Slot) (turn : InTurn slots o y new t.seat.me seat1.me)
      (e : Event) (public : is_touch e ≡ false) (next : Next e v) where
    abbrev in_it : Me Slot View
    in_it = (in_turn o y v0, (o, new) ∷ [])

    turned_is : seat1.me ≡ in_it
    turned_is = turn.me

    -- the turn may be left with the event done
    pub may_finish : o < count_of key → Made o e (on_try true (suc v0.tries) o 0 y v) new → Leaves left_done key slots seat1.id seat1.me o
    may_finish lt made =
        subst (λ (m : Me Slot View). Leaves left_done key slots seat1.id m o) (sym turned_is)
        (finishing key laws.tells laws.entries laws.once slots seat1.id o in_it new (alive e next) refl refl lt refl t.touched e
        (ahead_is e public next (suc v0.tries) o 0 y)
        (subst (λ (z : View). Made o e z new) (sym (passed_try true (suc v0.tries) o 0 y t.touched v0)) made))

    -- and is left so
    pub finished : (after : Me Slot View) → left_done (step slots o 0 0 none) seat1.me 0 after → after
        ≡ (did e (on_try true (suc v0.tries) o 0 y v), [])
    finished after left =
        let d = subst (λ (m : Me Slot View). left_done (step slots o 0 0 none) m 0 after) turned_is left in
        let now : after.0 ≡ did e (on_try true (suc v0.tries) o 0 y v) = (d.0 t.touched e (ahead_is e public next (suc v0.tries) o 0 y)).0
        ∙ ap (did e) (passed_try true (suc v0.tries) o 0 y t.touched v0) in
        λ i. (now i, d.1 i)

    -- which is one event of a core
    pub happened : (after : Me Slot View) → left_done (step slots o 0 0 none) seat1.me 0 after → (z : ShelfView) → y ≡ slot.Object z → OneEvent e o z v
    happened after left z is =
        let d = subst (λ (m : Me Slot View). left_done (step slots o 0 0 none) m 0 after) turned_is left in
        let told = (d.0 t.touched e (ahead_is e public next (suc v0.tries) o 0 y)).1 z is in
        let h = subst (λ (w : View). OneEvent e o z w) (passed_try true (suc v0.tries) o 0 y t.touched v0) told in
        record { seen = seen_on true (suc v0.tries) o 0 y v o z h.seen; next = h.next; after = h.after; does = h.does }

  -- an event done: the fields follow
  pub left_rests : (t3 : Task) (w : View) → t3.seat.me ≡ (w, []) → t3.path ≡ w.seat.path → (w.live ≡ true → t3.spare ≡ Some t3.path)
      → t3.children ≡ w.seat.children → t3.over ≡ w.over → Purse t3 w → (t3.touched ≡ 0) × (t3.events ≡ (t.events + 1) % 2 ^ 64) → w.turn ≡ false
      → w.seat.walker.done ≡ suc v.seat.walker.done
      → ((k : Place) → w.unborn ≡ Some k → Youngest w.seat.path w.seat.children k) → Rests t3
  left_rests t3 w is path spare children over purse counts off done kid =
      let to : (P : Me Slot View → Type 0) → P (w, []) → P t3.seat.me = λ P p. subst P (sym is) p in
      record {
        holds = ap (λ (m : Me Slot View). m.1) is;
        idle = ap (λ (m : Me Slot View). m.0.turn) is ∙ off;
        touches = ap (λ k. all_touches k t3.seat.me.0) counts.0;
        path = to (λ m. t3.path ≡ m.0.seat.path) path;
        spare = to (λ m. m.0.live ≡ true → t3.spare ≡ Some t3.path) spare;
        children = to (λ m. t3.children ≡ m.0.seat.children) children;
        events = counts.1 ∙ ap (λ x. (x + 1) % 2 ^ 64) r.events ∙ next_mod v.seat.walker.done
            ∙ ap (λ x. x % 2 ^ 64) (sym done ∙ sym (ap (λ (m : Me Slot View). m.0.seat.walker.done) is)
            ∙ sym (ap (λ k. (passed k t3.seat.me.0).seat.walker.done) counts.0));
        over = to (λ m. t3.over ≡ m.0.over) over;
        tickets = to (λ m. t3.tickets ≡ m.0.tickets) purse.tickets;
        notes = to (λ m. t3.notes ≡ m.0.notes) purse.notes;
        fed = to (λ m. m.0.live ≡ true → 0 < m.0.tickets) purse.fed;
        rich = to (λ m. (k : Place) → m.0.unborn ≡ Some k → 1 < m.0.tickets) purse.rich;
        kid = to (λ m. (k : Place) → m.0.unborn ≡ Some k → Youngest m.0.seat.path m.0.seat.children k) kid;
      }
    where
      next_mod : (x : ℕ) → (x % 2 ^ 64 + 1) % 2 ^ 64 ≡ suc x % 2 ^ 64
      next_mod x = omega arith

  -- a live task has its path once more
  pub spare_is : (t3 : Task) → v.live ≡ true → t3.path ≡ t.path → t3.spare ≡ t.spare → t3.spare ≡ Some t3.path
  spare_is t3 live path spare = spare ∙ r.spare (alive_is live) ∙ ap (λ p. Some p) (sym path)

  -- the same of an event that leaves path, children and the rest as they were
  pub done_rests : (t3 : Task) (w : View) → t3.seat.me ≡ (w, []) → (t3.path ≡ t.path) × (t3.children ≡ t.children) × (t3.over ≡ t.over)
      × (t3.spare ≡ t.spare) → (t3.tickets ≡ t.tickets) × (t3.notes ≡ t.notes) → (w.tickets ≡ v.tickets) × (w.notes ≡ v.notes)
      → v.live ≡ true → (t3.touched ≡ 0)
      × (t3.events ≡ (t.events + 1) % 2 ^ 64) → w.turn ≡ false → w.seat.path ≡ v.seat.path → w.seat.children ≡ v.seat.children → w.seat.walker.done
      ≡ suc v.seat.walker.done → w.over ≡ v.over → w.unborn ≡ None → Rests t3
  done_rests t3 w is fields purse hand live counts off path children done over born =
      left_rests t3 w is (fields.0 ∙ path_is ∙ sym path) (λ l. spare_is t3 live fields.0 fields.3) (fields.1 ∙ children_is ∙ sym children)
      (fields.2 ∙ over_is ∙ sym over)
      (record {
        tickets = purse.0 ∙ tickets_is ∙ sym hand.0;
        notes = purse.1 ∙ notes_is ∙ sym hand.1;
        fed = λ l. subst (λ x. 0 < x) (sym (hand.0 ∙ same.tickets)) (r.fed (alive_is live));
        rich = λ k e. absurd (none_some k (sym born ∙ e));
      })
      counts off done
      (λ k e. absurd (none_some k (sym born ∙ e)))

  pub done_shown : (t3 : Task) (w : View) → t3.seat.me ≡ (w, []) → t3.touched ≡ 0 → shown t3 ≡ w
  done_shown t3 w is zeroed = ap (λ k. passed k t3.seat.me.0) zeroed ∙ ap (λ (m : Me Slot View). m.0) is

  -- a turn that did something shows it
  pub did_shown : (o : ℕ) (z : ShelfView) (y : Slot) (held : List (Option Held)) → y ≡ slot.Object z
      → record (on_try true (suc v0.tries) o 0 y v) { seat = seat_after None v.seat; held = held; turn = false }
      ≡ record (saw o z v) { seat = seat_after None v.seat; held = held }
  did_shown o z y held is = λ i. record (on_try (idle_same i) (tries_same i) o 0 (is i) v) { seat = seat_after None v.seat; held = held }
