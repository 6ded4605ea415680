-- A turn that has begun is left with an event done, or with nothing done.
use Rattle.std.proofs.Common.{◌≡◌, ℕ, suc, ◌+◌, ◌%◌, ◌^◌, ◌<◌, true, false, [], ◌∷◌, ◌++◌, List, refl, sym, ap, ◌∙◌, subst, Option, Some, None}
use mathlib.Core.Option.{none}
use Rattle.std.specs.Prelude.{Result, Ok, Err, IfOk, IfErr, slice_get}
use Rattle.atomic_table.specs.Table.{Me, step, rest}
use Rattle.atomic_table.specs.Lent.{seat_with}
use Rattle.atomic_table.specs.declared.shared.Seat.{Seat}
use Rattle.jade_base.specs.Held.{Held}
use Rattle.jade_base.specs.declared.rights.Mode.{Mode}
use Rattle.jade_base.specs.declared.rights.Rights.{Rights}
use Rattle.jade_syntax.specs.Objects.{sizes}
use Rattle.object_shelf.specs.declared.queue.Entry.{Entry}
use Rattle.object_shelf.specs.Shelves.{keeper_in, at, without, entered_in, with_rights}
use Rattle.object_shelf.specs.Homes.{hand_in, handed, returned, on_queue}
use Rattle.jade_meaning.specs.Talk.{Event, Enter, Enroll, Take, TouchRead, TouchWrite, Wants, Give, Leave, Shift, Resign}
use Rattle.jade_meaning.specs.Plan.{RunPlan}
use Rattle.jade_meaning.specs.Walk.{upcoming, First}
use Rattle.object_shelf.specs.Views.{ShelfView}
use Rattle.schedule_core.specs.Plain.{seat_after}
use Rattle.object_table.specs.Views.{count_of, View}
use Rattle.object_table.specs.Touches.{is_touch, held_at, put_held}
use Rattle.object_table.specs.Plays.{tried_at, did, left_as_it_was, held_in, OneEvent, left_done}
use Rattle.object_table.specs.Calls.{Next, saw, Took, KeptBy, Did, IsBusy}
use Rattle.object_table.specs.steps.Kept.{Rests, GotTurn, Leaves, Laws, Made, shown, IsObject}
use Rattle.object_table.specs.steps.Leaving.{Begun, Ending, held_after, EndsWith, Desisted}
use Rattle.object_table.specs.declared.task.Task.{Task}
use Rattle.object_table.specs.declared.slot.Slot.{Slot}
use Rattle.object_table.specs.declared.slot.Slot.TheVariants as slot
use Rattle.object_table.proofs.Calls.{on_try, object_there, path_is, children_is, tries_same, told_sized, tried_rests, busy_is, busy_shown}
use Rattle.object_table.proofs.Calls.{off_is, off_shown, off_before, off_seen, alive_is}
use Rattle.object_table.proofs.Calls.{may_finish, may_desist, finished, happened, done_rests, done_shown, did_shown}
use Rattle.object_table.proofs.Touching.{passed_same}

-- one event more is done, and no touch since
abbrev pub OneMore : (before after : Task) → Type 0
OneMore t t3 = (t3.touched ≡ 0) × (t3.events ≡ (t.events + 1) % 2 ^ 64)

-- no touch makes anything of a slot's value
public : (o : ℕ) (e : Event) (v : View) (new : Slot) → Made o e v new → is_touch e ≡ false
public o (Take q m) v new made = refl
public o (Give q) v new made = refl
public o (Enter q a) v new made = refl
public o (Shift q a) v new made = refl
public o (Leave q) v new made = refl
public o (Enroll t n) v new made = refl
public o (Resign b n) v new made = refl
public o (TouchRead q c x) v new made = absurd made
public o (TouchWrite q c x) v new made = absurd made
public o (Wants q c) v new made = absurd made

-- what an event on an object changes of a pass
did_is : (o : ℕ) (e : Event) (v : View) (new : Slot) → Made o e v new
    → did e v ≡ record v { seat = seat_after None v.seat; held = held_after e v.note v.seat.path v.held; turn = false }
did_is o (Take q m) v new made = refl
did_is o (Give q) v new made = refl
did_is o (Enter q a) v new made = refl
did_is o (Shift q a) v new made = refl
did_is o (Leave q) v new made = refl
did_is o (Enroll t n) v new made = absurd made
did_is o (Resign b n) v new made = absurd made
did_is o (TouchRead q c x) v new made = absurd made
did_is o (TouchWrite q c x) v new made = absurd made
did_is o (Wants q c) v new made = absurd made

with_err : {A E : Type 0} (P Q : E → Type 0) → ((e : E) → P e → Q e) → (r : Result A E) → IfErr r P → IfErr r Q
with_err P Q f (Ok x) h = tt
with_err P Q f (Err e) h = f e h

-- another had the turn
module _ {A : Type 0} (t : Task) (r : Rests t) (seat : Seat Slot View) (o : ℕ) (result : Result A ℕ)
    (busy : IfErr result (λ n. (n ≡ 1) × (seat.me ≡ (tried_at o 1 t.seat.me.0, [])))) where
  pub rests_on : IfErr result (λ n. Rests (record t { seat = seat }))
  rests_on = with_err (λ n. (n ≡ 1) × (seat.me ≡ (tried_at o 1 t.seat.me.0, []))) (λ n. Rests (record t { seat = seat }))
      (λ n h. tried_rests t r seat (suc t.seat.me.0.tries) o 1 t.seat.me.0.note (busy_is t r seat o h.1)) result busy

  pub was_busy : IfErr result (λ n. IsBusy n o (shown t) (shown (record t { seat = seat })))
  was_busy = with_err (λ n. (n ≡ 1) × (seat.me ≡ (tried_at o 1 t.seat.me.0, []))) (λ n. IsBusy n o (shown t) (shown (record t { seat = seat })))
      (λ n h. record { word = h.0; after = busy_shown t r seat o h.1 }) result busy

-- the turn was had
pub begun_as : (slots o : ℕ) (t : Task) → Rests t → (shown t).live ≡ true → (seat : Seat Slot View) (result : Result (Unit {0}) ℕ)
    → IfOk result (λ _. (y : Slot) × GotTurn slots o y t.seat.me seat.me)
    → IfOk result (λ _. (y : Slot) × Begun slots o y y t (record t { seat = seat }))
begun_as slots o t r live seat (Ok x) h = (h.0, record { rests = r; turn = record { me = h.1.me; told = h.1.told (alive_is t r live) }; same = refl })
begun_as slots o t r live seat (Err e) h = tt

abbrev first_of : Slot → List (ℕ × Slot) → Slot
first_of y [] = y
first_of y (x ∷ xs) = x.1

-- a turn has begun
module _ {slots o : ℕ} {y x : Slot} {t now : Task} (b : Begun slots o y x t now) where
  pub same_fields : (now.path ≡ t.path) × (now.children ≡ t.children) × (now.over ≡ t.over) × (now.events ≡ t.events) × (now.spare ≡ t.spare)
      × (now.tickets ≡ t.tickets) × (now.notes ≡ t.notes)
  same_fields = (
    ap (λ (z : Task). z.path) b.same,
    ap (λ (z : Task). z.children) b.same,
    ap (λ (z : Task). z.over) b.same,
    ap (λ (z : Task). z.events) b.same,
    ap (λ (z : Task). z.spare) b.same,
    ap (λ (z : Task). z.tickets) b.same,
    ap (λ (z : Task). z.notes) b.same,
  )

  -- what lies in the slot is lent, and is changed
  pub may_lend : (w : Slot) × (now.seat.me.1 ≡ (o, w) ∷ rest now.seat.me.1)
  may_lend = (x, ap (λ (m : Me Slot View). m.1) b.turn.me ∙ sym (ap (λ (m : Me Slot View). (o, x) ∷ rest m.1) b.turn.me))

  pub lent_is : (w : Slot) → now.seat.me.1 ≡ (o, w) ∷ rest now.seat.me.1 → w ≡ x
  lent_is w e = ap (first_of w) (sym e ∙ ap (λ (m : Me Slot View). m.1) b.turn.me)

  pub placed : (w : Slot) → Begun slots o y w t (record now { seat = seat_with now.seat o w })
  placed w = record {
    rests = b.rests;
    turn = record { me = ap (λ (m : Me Slot View). (m.0, (o, w) ∷ rest m.1)) b.turn.me; told = b.turn.told };
    same = ap (λ (z : Task). record z { seat = seat_with now.seat o w }) b.same;
  }

  pub path_now : now.path ≡ (shown t).seat.path
  path_now = ap (λ (z : Task). z.path) b.same ∙ path_is t b.rests

-- with what was found there it is left with nothing done
module _ (slots o : ℕ) (y : Slot) (t now : Task) (b : Begun slots o y y t now) where
  -- an object's slot has all that it shows, and the roll's has its tally
  pub object_begun : (key : RunPlan) → slots ≡ suc (count_of key) → o < count_of key
      → (z : ShelfView) × Begun slots o (slot.Object z) (slot.Object z) t now
  object_begun key deep lt = go y (object_there slots t.seat.me.0 o y key deep lt b.turn.told) b
    where
      go : (q : Slot) → IsObject q → Begun slots o q q t now → (z : ShelfView) × Begun slots o (slot.Object z) (slot.Object z) t now
      go slot.Away i c = absurd i
      go (slot.Object z) i c = (z, c)
      go (slot.Roll r) i c = absurd i

  -- what is lent of an object
  pub object_lent : (key : RunPlan) → slots ≡ suc (count_of key) → o < count_of key → (w : Slot) → now.seat.me.1 ≡ (o, w) ∷ rest now.seat.me.1
      → (z : ShelfView) × Begun slots o (slot.Object z) (slot.Object z) t now × (w ≡ slot.Object z)
  object_lent key deep lt w e = let g = object_begun key deep lt in (g.0, g.1, lent_is g.1 w e)

  pub may_leave : (key : RunPlan) → Laws key → Leaves left_as_it_was key slots now.seat.id now.seat.me o
  may_leave key laws = may_desist t b.rests slots now.seat o y y b.turn key laws refl

  module _ (seat : Seat Slot View) (left : left_as_it_was (step slots o 0 0 none) now.seat.me 0 seat.me) where
    after_is : (P : Task → Type 0) → P (record t { seat = seat }) → P (record now { seat = seat })
    after_is P p = subst (λ (z : Task). P (record z { seat = seat })) (sym b.same) p

    pub desisted_rests : Rests (record now { seat = seat })
    desisted_rests =
        after_is Rests (tried_rests t b.rests seat (suc t.seat.me.0.tries) o 0 y (off_is t b.rests now.seat seat slots o y y b.turn left))

    pub desisted : Desisted o y t (record now { seat = seat })
    desisted = after_is (Desisted o y t) (record {
      unchanged = off_before t b.rests now.seat seat slots o y y b.turn left;
      seen = off_shown t b.rests now.seat seat slots o y y b.turn left;
      told = off_seen t b.rests now.seat seat slots o y y b.turn left;
    })

-- what each event on an object makes of it
module _ {key : RunPlan} {slots o : ℕ} {t now : Task} {z : ShelfView} {w : Slot} (b : Begun slots o (slot.Object z) (slot.Object z) t now)
    (lt : o < count_of key) where
  abbrev pub take_ends : {m : Mode} → Next (Take o m) (shown t) → keeper_in now.path m z.queue ≡ None → w ≡ slot.Object (handed now.path m z)
      → Ending key slots o (record now { seat = seat_with now.seat o w })
  take_ends {m} next free is_new = record {
    before = t;
    value = slot.Object z;
    new = w;
    event = Take o m;
    begun = placed b w;
    object = lt;
    next = next;
    made = (
      refl,
      z,
      refl,
      subst (λ p. keeper_in p m z.queue ≡ None) (path_now b) free,
      is_new ∙ ap (λ p. slot.Object (handed p m z)) (path_now b),
    );
  }

  abbrev pub give_ends : {c : Held} → Next (Give o) (shown t) → held_at o (shown t).held ≡ Some c → w ≡ slot.Object (returned now.path c z)
      → Ending key slots o (record now { seat = seat_with now.seat o w })
  give_ends {c} next has is_new = record {
    before = t;
    value = slot.Object z;
    new = w;
    event = Give o;
    begun = placed b w;
    object = lt;
    next = next;
    made = (refl, z, c, refl, has, is_new ∙ ap (λ p. slot.Object (returned p c z)) (path_now b));
  }

  abbrev pub shift_ends : {a : Rights} → Next (Shift o a) (shown t) → w ≡ slot.Object (on_queue (at now.path (with_rights a)) z)
      → Ending key slots o (record now { seat = seat_with now.seat o w })
  shift_ends {a} next is_new = record {
    before = t;
    value = slot.Object z;
    new = w;
    event = Shift o a;
    begun = placed b w;
    object = lt;
    next = next;
    made = (refl, z, refl, is_new ∙ ap (λ p. slot.Object (on_queue (at p (with_rights a)) z)) (path_now b));
  }

  abbrev pub leave_ends : Next (Leave o) (shown t) → w ≡ slot.Object (on_queue (without now.path) z)
      → Ending key slots o (record now { seat = seat_with now.seat o w })
  leave_ends next is_new = record {
    before = t;
    value = slot.Object z;
    new = w;
    event = Leave o;
    begun = placed b w;
    object = lt;
    next = next;
    made = (refl, z, refl, is_new ∙ ap (λ p. slot.Object (on_queue (without p) z)) (path_now b));
  }

  abbrev pub enter_ends : {a : Rights} {kid : List ℕ} → Next (Enter o a) (shown t) → kid ≡ t.path ++ t.children ∷ []
      → w ≡ slot.Object (on_queue (entered_in now.path kid a) z) → Ending key slots o (record now { seat = seat_with now.seat o w })
  enter_ends {a} {kid} next is_kid is_new = record {
    before = t;
    value = slot.Object z;
    new = w;
    event = Enter o a;
    begun = placed b w;
    object = lt;
    next = next;
    made = (
      refl,
      z,
      refl,
      is_new ∙ ap (λ q. slot.Object (on_queue (entered_in now.path q a) z)) is_kid
          ∙ λ i. slot.Object (on_queue (entered_in (path_now b i) (path_is t b.rests i ++ children_is t b.rests i ∷ []) a) z),
    );
  }

-- what a Take answers
module _ {slots o : ℕ} {t now : Task} {z : ShelfView} (b : Begun slots o (slot.Object z) (slot.Object z) t now) where
  pub took : {m : Mode} {c : Held} {v : View} → keeper_in now.path m z.queue ≡ None → hand_in now.path m z ≡ Some c.cells → c.mode ≡ m
      → (v ≡ record (saw o z (shown t)) {
        seat = seat_after None (shown t).seat;
        held = put_held o (held_in m (hand_in (shown t).seat.path m z)) (shown t).held;
      }) × OneEvent (Take o m) o z (shown t) → Took o m c (shown t) v
  took {m} {c} {v} free handed_out mode ends =
      let content : hand_in (shown t).seat.path m z ≡ Some c.cells = subst (λ p. hand_in p m z ≡ Some c.cells) (path_now b) handed_out in
      let held : held_in m (hand_in (shown t).seat.path m z) ≡ Some c =
      ap (held_in m) content ∙ λ i. Some (record { mode = sym mode i; cells = c.cells }) in
      record {
        object = z;
        free = subst (λ p. keeper_in p m z.queue ≡ None) (path_now b) free;
        content = content;
        mode = mode;
        sized = ap (λ (x : RunPlan). slice_get (sizes x.program.items) o) (passed_same t.touched t.seat.me.0).key
            ∙ told_sized slots t.seat.me.0 o (slot.Object z) b.turn.told z refl (shown t).seat.path m c.cells content;
        event = ends.1;
        after = ends.0 ∙ ap (λ q. record (saw o z (shown t)) { seat = seat_after None (shown t).seat; held = put_held o q (shown t).held }) held;
      }

  pub as_found : {w : Slot} → w ≡ slot.Object z → Begun slots o (slot.Object z) (slot.Object z) t (record now { seat = seat_with now.seat o w })
  as_found {w} same = subst (λ q. Begun slots o (slot.Object z) q t (record now { seat = seat_with now.seat o w })) same (placed b w)

  pub kept_by : {m : Mode} {q : List ℕ} {after : Task} → (shown t).live ≡ true → (e : Entry) → keeper_in now.path m z.queue ≡ Some e → q ≡ e.path
      → Desisted o (slot.Object z) t after → KeptBy q o m (shown t) (shown after)
  kept_by {m} live e keeps path d = record {
    object = z;
    seen = d.told live z refl;
    entry = e;
    keeps = subst (λ p. keeper_in p m z.queue ≡ Some e) (path_now b) keeps;
    path = path;
    after = d.seen z refl;
  }

-- the next event
first_is : (l : List Event) (e : Event) (P : Event → Type 0) → First l (λ x. x ≡ e) → P e → First l P
first_is [] e P f p = absurd f
first_is (x ∷ l) e P f p = subst P (sym f) p

-- what another event on an object answers
pub did_so : {o : ℕ} {e : Event} {z : ShelfView} {hs : List (Option Held)} {v w : View} → Next e v
    → (w ≡ record (saw o z v) { seat = seat_after None v.seat; held = hs }) × OneEvent e o z v → Did o hs v w
did_so {o} {e} {z} {hs} {v} {w} next ends = record {
  object = z;
  event = first_is (upcoming v.seat.walker) e (λ x. OneEvent x o z v) next.first ends.1;
  after = ends.0;
}

-- it is left with an event on an object done
module _ (key : RunPlan) (laws : Laws key) (slots o : ℕ) (now : Task) (d : Ending key slots o now) where
  abbrev t : Task
  t = d.before

  abbrev r : Rests t
  r = d.begun.rests

  abbrev there : View
  there = on_try true (suc t.seat.me.0.tries) o 0 d.value (shown t)

  made : Made o d.event there d.new
  made = subst (λ n. Made o d.event (on_try true n o 0 d.value (shown t)) d.new) (sym (tries_same t r)) d.made

  pub may_end : Leaves left_done key slots now.seat.id now.seat.me o
  may_end = may_finish t r key laws slots now.seat o d.value d.new d.begun.turn d.event (public o d.event there d.new made) d.next d.object made

  module _ (t3 : Task) (seat : Seat Slot View) (sits : t3.seat ≡ seat) (left : left_done (step slots o 0 0 none) now.seat.me 0 seat.me)
      (fields : (t3.path ≡ now.path) × (t3.children ≡ now.children) × (t3.over ≡ now.over)) (spare : t3.spare ≡ now.spare)
      (purse : (t3.tickets ≡ now.tickets) × (t3.notes ≡ now.notes)) (counts : OneMore now t3) where
    abbrev held : List (Option Held)
    held = held_after d.event d.value (shown t).seat.path (shown t).held

    abbrev w : View
    w = record there { seat = seat_after None (shown t).seat; held = held; turn = false }

    me : t3.seat.me ≡ (w, [])
    me = ap (λ (s : Seat Slot View). s.me) sits
        ∙ finished t r key laws slots now.seat o d.value d.new d.begun.turn d.event (public o d.event there d.new made) d.next seat.me left
        ∙ ap (λ (x : View). (x, [])) (did_is o d.event there d.new made)

    pub ended_rests : Rests t3
    ended_rests =
        let s = same_fields d.begun in
        done_rests t r t3 w me (fields.0 ∙ s.0, fields.1 ∙ s.1, fields.2 ∙ s.2, spare ∙ s.4) (purse.0 ∙ s.5, purse.1 ∙ s.6) (refl, refl) d.next.live
        (counts.0, counts.1 ∙ ap (λ n. (n + 1) % 2 ^ 64) s.3) refl refl refl refl refl
        d.next.born

    pub ended : EndsWith o d.event d.value (shown t) (shown t3)
    ended z is = (
      done_shown t r t3 w me counts.0 ∙ did_shown t r o z d.value held is,
      happened t r key laws slots now.seat o d.value d.new d.begun.turn d.event (public o d.event there d.new made) d.next seat.me left z is,
    )
