-- A touch is an event of the core that no slot shows.
use Rattle.std.proofs.Common.{◌≡◌, ℕ, zero, suc, Bool, true, false, ◌&&◌, List, [], ◌∷◌, ◌++◌, map, length, set, refl, sym, ap, ◌∙◌, subst, Option, Some}
use Rattle.std.proofs.Common.{None}
use Rattle.std.specs.Prelude.{ℤ, is_some, slice_set}
use mathlib.Core.Logic.{dite}
use mathlib.Core.Option.{some}
use native.Mathlib.Decide.{ℕ_discrete}
use lib.ListN.{get_elem?}
use Rattle.atomic_table.specs.Table as table
use Rattle.atomic_table.proofs.Lists.{set_here, set_again}
use Rattle.jade_base.specs.Held.{Held}
use Rattle.jade_meaning.specs.Talk.{Event, Enter, Enroll, Take, TouchRead, TouchWrite, Wants, Give, Leave, Shift, Resign}
use Rattle.jade_meaning.specs.Walk.{upcoming, First}
use Rattle.object_shelf.specs.declared.queue.Entry.{Entry}
use Rattle.object_shelf.specs.Views.{ObjectView}
use Rattle.object_shelf.specs.Shelves.{same_path, find, takes_out, value_in, content_for, version_of, version_or, written}
use Rattle.object_shelf.specs.Whole.{with_cell, is_out}
use Rattle.schedule_core.specs.declared.steps.Seat.{Seat}
use Rattle.schedule_core.specs.ByNumber.{shelf_at}
use Rattle.schedule_core.specs.Plain.{seat_after, on_shelf, value_at}
use Rattle.schedule_core.specs.Tells.{CoreTells, Holding}
use Rattle.jade_meaning.specs.Plan.{RunPlan}
use Rattle.object_table.specs.Views.{View, core_notes, shelf_of, home_if, gathered}
use Rattle.object_table.specs.Touches.{held_at, put_held, cells_of, touches_first, touch_next, touched_first, touched, passed, all_touches}
use Rattle.object_table.specs.Rule.{hold_of, HeldOk, nothing, owns, sees, Agrees, Shown}
use Rattle.object_table.specs.declared.slot.Slot.{Slot}
use Rattle.object_table.proofs.Lists.{shelf_on, shelf_else, held_here, held_else, at_inside}
use Rattle.object_table.proofs.Entries.{some_entry, found_out}
use Rattle.object_table.proofs.Goes.{SamePurse, same_pays, renewed}
use Rattle.object_table.proofs.Quiet.{p, seat_on, on, quiet, part_else}

value_is : (o c : ℕ) (q : List ℕ) (ss : List ObjectView) → value_at o c q ss ≡ value_in (content_for q (shelf_at ss o)) c
value_is o c q [] = refl
value_is zero c q (s ∷ ss) = refl
value_is (suc o) c q (s ∷ ss) = value_is o c q ss

-- what a task that holds an object reads there is in what it holds
held_content : (q : List ℕ) (x : ObjectView) (h : Option Held) (e : Entry) → find q x.queue ≡ Some e → is_some e.hold ≡ true → HeldOk q x h → content_for q x
    ≡ cells_of h
held_content q x h e f k (nothing empty none_held) = absurd (let r : e.hold ≡ None = ap hold_of (sym f) ∙ none_held in let z : false ≡ true = ap is_some (sym r)
    ∙ k in cc)
held_content q x h e f k (owns d a is g m t v c) = ap (λ z. version_of z x.content) g ∙ ap (λ z. version_or z x.content) v ∙ c ∙ sym (ap cells_of is)
held_content q x h e f k (sees d a is g m t v) = ap (λ z. version_of z x.content) g ∙ ap (λ z. version_or z x.content) v ∙ sym (ap cells_of is)

-- a write to what a task has out
written_ok : (q : List ℕ) (x : ObjectView) (h : Option Held) (c : ℕ) (n : ℤ) (e : Entry) → find q x.queue ≡ Some e → takes_out e.hold ≡ true → HeldOk q x h
    → HeldOk q (written c n x) (with_cell c n h)
written_ok q x h c n e f k (nothing empty none_held) = absurd (let r : e.hold ≡ None = ap hold_of (sym f) ∙ none_held in let z : false ≡ true =
    ap takes_out (sym r) ∙ k in cc)
written_ok q x h c n e f k (owns d a is g m t v w) = owns (record d {
  cells =
      slice_set d.cells c n;
}) a (ap (with_cell c n) is) g m t v (ap (λ xs. slice_set xs c n) w)
written_ok q x h c n e f k (sees d a is g m t v) = absurd (let same : e ≡ a = some_entry e a (sym f ∙ g) in let z : false ≡ true = sym t
    ∙ ap (λ (y : Entry). takes_out y.hold) (sym same) ∙ k in cc)

module _ (n : ℕ) (key : RunPlan) (s : table.State Slot View) (h : Shown n key s) (id : ℕ) (v : View) (at_v : get_elem? s.views id ≡ some v) (alive : v.live
    ≡ true) (tells : CoreTells key.program key.numbers key.limit) where
  held : Agrees (p n key s h id v at_v alive) h.shelves v.held
  held = (h.passes id v at_v).sits.held alive

  first_is : (e : Event) (es : List Event) → upcoming v.seat.walker ≡ e ∷ es → First (upcoming v.seat.walker) (λ x. x ≡ e)
  first_is e es q = subst (λ l. First l (λ x. x ≡ e)) (sym q) refl

  module _ (o c : ℕ) (es : List Event) (q : upcoming v.seat.walker ≡ Wants o c ∷ es) where
    next : First (upcoming v.seat.walker) (λ x. x ≡ Wants o c)
    next = first_is (Wants o c) es q

    abbrev u2 : Seat
    u2 = seat_after (Some (value_in (cells_of (held_at o v.held)) c)) v.seat

    abbrev w : View
    w = record v { seat = u2 }

    untouched : SamePurse v w
    untouched = record { tickets = refl; notes = refl; over = refl }

    holding : Holding (λ x. is_some x) v.seat.path (shelf_at h.shelves o).queue
    holding = tells.reads h.count (map h.seats h.owners) h.shelves (core_notes (gathered h.tally s.views)) h.reached (length (on n key s h id v at_v alive).spot.front) v.seat
        (seat_on n key s h id v at_v alive _ v.seat (on n key s h id v at_v alive)) o c next

    value : value_at o c v.seat.path h.shelves ≡ value_in (cells_of (held_at o v.held)) c
    value = value_is o c v.seat.path h.shelves ∙ ap (λ xs. value_in xs c)
        (held_content v.seat.path (shelf_at h.shelves o) (held_at o v.held) holding.entry holding.there holding.hold (held.each o))

    pub read_on : Shown n key (record { words = s.words; homes = s.homes; views = set s.views id w })
    read_on =
        renewed n key s h id v at_v w (quiet n key s h id v at_v alive tells (Wants o c) u2 h.shelves w next
        (ap (λ z. seat_after (Some z) v.seat ∷ []) (sym value), refl) (λ ns. refl) refl refl refl refl refl untouched (λ q far kin hs a. a) held)
        (λ i. part_else n key s h id v at_v alive tells (Wants o c) u2 h.shelves w next (
          ap (λ z. seat_after (Some z) v.seat ∷ []) (sym value),
          refl,
        ) (λ ns. refl) refl refl refl refl refl untouched (λ q far kin hs a. a) held i refl)
        (record { turn = refl; place = λ e. refl; note = λ e. refl }) (same_pays n key s h id v at_v w untouched)

  module _ (o c : ℕ) (x : ℤ) (es : List Event) (q : upcoming v.seat.walker ≡ TouchWrite o c x ∷ es) where
    next_write : First (upcoming v.seat.walker) (λ y. y ≡ TouchWrite o c x)
    next_write = first_is (TouchWrite o c x) es q

    abbrev u3 : Seat
    u3 = seat_after None v.seat

    abbrev new_held : List (Option Held)
    new_held = put_held o (with_cell c x (held_at o v.held)) v.held

    abbrev w3 : View
    w3 = record v { seat = u3; held = new_held }

    untouched_write : SamePurse v w3
    untouched_write = record { tickets = refl; notes = refl; over = refl }

    abbrev ss3 : List ObjectView
    ss3 = on_shelf o (written c x) h.shelves

    out : Holding takes_out v.seat.path (shelf_at h.shelves o).queue
    out = tells.writes h.count (map h.seats h.owners) h.shelves (core_notes (gathered h.tally s.views)) h.reached (length (on n key s h id v at_v alive).spot.front) v.seat
        (seat_on n key s h id v at_v alive _ v.seat (on n key s h id v at_v alive)) o c x next_write

    here : shelf_at ss3 o ≡ written c x (shelf_at h.shelves o)
    here = shelf_on o (written c x) h.shelves refl

    own : Agrees v.seat.path ss3 new_held
    own = record {
      each = λ i. dite (ℕ_discrete i o)
          (λ same. subst (λ j. HeldOk v.seat.path (shelf_at ss3 j) (held_at j new_held)) (sym same)
          (subst (λ y. HeldOk v.seat.path y (held_at o new_held)) (sym here)
          (subst (λ y. HeldOk v.seat.path (written c x (shelf_at h.shelves o)) y) (sym (held_here o (with_cell c x (held_at o v.held)) v.held))
          (written_ok v.seat.path (shelf_at h.shelves o) (held_at o v.held) c x out.entry out.there out.hold (held.each o)))))
          (λ ne. subst (λ y. HeldOk v.seat.path y (held_at i new_held)) (sym (shelf_else o i (written c x) h.shelves ne))
          (subst (λ y. HeldOk v.seat.path (shelf_at h.shelves i) y) (sym (held_else o i (with_cell c x (held_at o v.held)) v.held ne)) (held.each i)));
    }

    far : (r : List ℕ) → same_path r v.seat.path ≡ false → same_path r (v.seat.path ++ v.seat.children ∷ []) ≡ false → (hs : List (Option Held))
        → Agrees r h.shelves hs → Agrees r ss3 hs
    far r off kin hs a = record {
      each = λ i. dite (ℕ_discrete i o)
          (λ same. subst (λ j. HeldOk r (shelf_at ss3 j) (held_at j hs)) (sym same)
          (subst (λ y. HeldOk r y (held_at o hs)) (sym here) (other (held_at o hs) (a.each o))))
          (λ ne. subst (λ y. HeldOk r y (held_at i hs)) (sym (shelf_else o i (written c x) h.shelves ne)) (a.each i));
    }
      where
        other : (k : Option Held) → HeldOk r (shelf_at h.shelves o) k → HeldOk r (written c x (shelf_at h.shelves o)) k
        other k (nothing empty none_held) = nothing empty none_held
        other k (sees d e is g m t v) = sees d e is g m t v
        other k (owns d e is g m t u z) = absurd (let y : false ≡ true = sym off
            ∙ tells.alone h.count (map h.seats h.owners) h.shelves (core_notes (gathered h.tally s.views)) h.reached o r v.seat.path e out.entry g t out.there out.hold in cc)

    shows : (i : ℕ) → shelf_of (shelf_at h.shelves i) ≡ shelf_of (shelf_at ss3 i)
    shows i = dite (ℕ_discrete i o)
        (λ same. subst (λ j. shelf_of (shelf_at h.shelves j) ≡ shelf_of (shelf_at ss3 j)) (sym same) (hidden ∙ ap shelf_of (sym here)))
        (λ ne. ap shelf_of (sym (shelf_else o i (written c x) h.shelves ne)))
      where
        hidden : shelf_of (shelf_at h.shelves o) ≡ shelf_of (written c x (shelf_at h.shelves o))
        hidden =
            let b : is_out (shelf_at h.shelves o).queue ≡ true = found_out v.seat.path out.entry (shelf_at h.shelves o).queue out.there out.hold in
            ap (λ z. record { queue = (shelf_at h.shelves o).queue; home = home_if z (shelf_at h.shelves o).content; turns = (shelf_at h.shelves o).turns }) b
            ∙ sym (ap (λ z. record { queue = (shelf_at h.shelves o).queue; home = home_if z (slice_set (shelf_at h.shelves o).content c x); turns = (shelf_at h.shelves o).turns }) b)

    pub write_on : Shown n key (record { words = s.words; homes = s.homes; views = set s.views id w3 })
    write_on =
        renewed n key s h id v at_v w3 (quiet n key s h id v at_v alive tells (TouchWrite o c x) u3 ss3 w3 next_write (
          refl,
          refl,
        ) (λ ns. refl) refl refl refl refl refl untouched_write far own)
        (λ i. part_else n key s h id v at_v alive tells (TouchWrite o c x) u3 ss3 w3 next_write (
          refl,
          refl,
        ) (λ ns. refl) refl refl refl refl refl untouched_write far own i (shows i))
        (record { turn = refl; place = λ e. refl; note = λ e. refl }) (same_pays n key s h id v at_v w3 untouched_write)

  -- one touch keeps the rule
  pub touch_on : touch_next v ≡ true → Shown n key (record { words = s.words; homes = s.homes; views = set s.views id (touched v) })
  touch_on t = go (upcoming v.seat.walker) refl t
    where
      go : (l : List Event) → upcoming v.seat.walker ≡ l → touches_first l ≡ true
          → Shown n key (record { words = s.words; homes = s.homes; views = set s.views id (touched_first l v) })
      go [] q r = absurd (cc)
      go (Wants o c ∷ es) q r = read_on o c es q
      go (TouchWrite o c x ∷ es) q r = write_on o c x es q
      go (TouchRead o c x ∷ es) q r = absurd (cc)
      go (Enter o a ∷ es) q r = absurd (cc)
      go (Enroll t m ∷ es) q r = absurd (cc)
      go (Take o m ∷ es) q r = absurd (cc)
      go (Give o ∷ es) q r = absurd (cc)
      go (Leave o ∷ es) q r = absurd (cc)
      go (Shift o a ∷ es) q r = absurd (cc)
      go (Resign b m ∷ es) q r = absurd (cc)

-- what a touch leaves as it is
pub record Same (v w : View) : Type 0 where
  pub key : w.key ≡ v.key
  pub live : w.live ≡ v.live
  pub unborn : w.unborn ≡ v.unborn
  pub over : w.over ≡ v.over
  pub tickets : w.tickets ≡ v.tickets
  pub notes : w.notes ≡ v.notes
  pub turn : w.turn ≡ v.turn
  pub tries : w.tries ≡ v.tries
  pub place : w.place ≡ v.place
  pub word : w.word ≡ v.word
  pub note : w.note ≡ v.note
  pub path : w.seat.path ≡ v.seat.path
  pub children : w.seat.children ≡ v.seat.children

all_same : (v : View) → Same v v
all_same v = record {
  key = refl;
  live = refl;
  unborn = refl;
  over = refl;
  tickets = refl;
  notes = refl;
  turn = refl;
  tries = refl;
  place = refl;
  word = refl;
  note = refl;
  path =
      refl;
  children = refl;
}

abbrev same_after : (v w : View) → w ≡ record v { seat = w.seat; held = w.held } → w.seat.path ≡ v.seat.path → w.seat.children ≡ v.seat.children → Same v w
same_after v w e p c = record {
  key = ap (λ (x : View). x.key) e;
  live = ap (λ (x : View). x.live) e;
  unborn = ap (λ (x : View). x.unborn) e;
  over = ap (λ (x : View). x.over) e;
  tickets = ap (λ (x : View). x.tickets) e;
  notes = ap (λ (x : View). x.notes) e;
  turn = ap (λ (x : View). x.turn) e;
  tries = ap (λ (x : View). x.tries) e;
  place = ap (λ (x : View). x.place) e;
  word = ap (λ (x : View). x.word) e;
  note = ap (λ (x : View). x.note) e;
  path = p;
  children = c;
}

first_same : (l : List Event) (v : View) → Same v (touched_first l v)
first_same [] v = all_same v
first_same (Wants o c ∷ es) v = same_after v (touched_first (Wants o c ∷ es) v) refl refl refl
first_same (TouchWrite o c x ∷ es) v = same_after v (touched_first (TouchWrite o c x ∷ es) v) refl refl refl
first_same (TouchRead o c x ∷ es) v = all_same v
first_same (Enter o a ∷ es) v = all_same v
first_same (Enroll t m ∷ es) v = all_same v
first_same (Take o m ∷ es) v = all_same v
first_same (Give o ∷ es) v = all_same v
first_same (Leave o ∷ es) v = all_same v
first_same (Shift o a ∷ es) v = all_same v
first_same (Resign b m ∷ es) v = all_same v

then_same : (u v w : View) → Same u v → Same v w → Same u w
then_same u v w a b = record {
  key = b.key ∙ a.key;
  live = b.live ∙ a.live;
  unborn = b.unborn ∙ a.unborn;
  over = b.over ∙ a.over;
  tickets = b.tickets ∙ a.tickets;
  notes = b.notes ∙ a.notes;
  turn = b.turn ∙ a.turn;
  tries = b.tries ∙ a.tries;
  place = b.place ∙ a.place;
  word = b.word ∙ a.word;
  note = b.note ∙ a.note;
  path = b.path ∙ a.path;
  children = b.children ∙ a.children;
}

pub passed_same : (k : ℕ) (v : View) → Same v (passed k v)
passed_same zero v = all_same v
passed_same (suc k) v = then_same v (passed k v) (touched (passed k v)) (passed_same k v) (first_same (upcoming (passed k v).seat.walker) (passed k v))

pub set_set : (l : List View) (i : ℕ) (a b : View) → set (set l i a) i b ≡ set l i b
set_set [] i a b = refl
set_set (x ∷ l) zero a b = refl
set_set (x ∷ l) (suc i) a b = ap (λ m. x ∷ m) (set_set l i a b)

set_self : (l : List View) (i : ℕ) (a : View) → get_elem? l i ≡ some a → set l i a ≡ l
set_self l i a e = set_again l i a e

pub and_left : (a b : Bool) → a && b ≡ true → a ≡ true
and_left true b e = refl
and_left false b e = absurd (cc)

pub and_right : (a b : Bool) → a && b ≡ true → b ≡ true
and_right true b e = e
and_right false b e = absurd (cc)

-- so many touches keep the rule
pub passing : (n : ℕ) (key : RunPlan) (s : table.State Slot View) → Shown n key s → (id : ℕ) (v : View) → get_elem? s.views id ≡ some v → v.live ≡ true
    → CoreTells key.program key.numbers key.limit → (k : ℕ) → all_touches k v ≡ true
    → Shown n key (record { words = s.words; homes = s.homes; views = set s.views id (passed k v) })
passing n key s h id v at_v alive tells zero all = subst (λ l. Shown n key (record {
  words = s.words;
  homes = s.homes;
  views =
      l;
})) (sym (set_self s.views id v at_v)) h
passing n key s h id v at_v alive tells (suc k) all =
    subst (λ l. Shown n key (record { words = s.words; homes = s.homes; views = l })) (set_set s.views id (passed k v) (touched (passed k v)))
    (touch_on n key (record {
      words = s.words;
      homes = s.homes;
      views =
          set s.views id (passed k v);
    }) (passing n key s h id v at_v alive tells k (and_left (all_touches k v) (touch_next (passed k v)) all)) id (passed k v)
    (set_here s.views id (passed k v) (at_inside s.views id v at_v)) ((passed_same k v).live
    ∙ alive) tells (and_right (all_touches k v) (touch_next (passed k v)) all))
