-- A pass that goes past the touches on the way of a course comes to what the course is played up to.
use Rattle.std.proofs.Common.{◌≡◌, ◌⊎◌, ℕ, zero, suc, length, List, [], ◌∷◌, ◌++◌, true, Option, Some, None, refl, sym, ap, ap₂, ◌∙◌, subst, inl, inr}
use Rattle.std.specs.Prelude.{ℤ, nat_eq, if◌then◌else◌}
use Rattle.std.proofs.lemmas.Bool.{cases_eq, eq-eqb, ne_eqb}
use Rattle.jade_base.specs.Held.{Held}
use Rattle.jade_meaning.specs.Specification.{Specification}
use Rattle.jade_meaning.specs.Course.{Course, Reads, Writes, Steps, Creates, Changes, Ends}
use Rattle.jade_meaning.specs.Talk.{TouchRead, TouchWrite, Wants, Holds}
use Rattle.jade_meaning.specs.Talk.{events}
use Rattle.object_shelf.specs.Whole.{with_cell as content_with}
use Rattle.object_shelf.specs.Shelves.{value_in}
use Rattle.schedule_core.specs.Plain.{seat_after}
use Rattle.object_table.specs.Views.{View}
use Rattle.object_table.specs.Touches.{held_at, put_held, cells_of, touches_first, touched_first, touched, touch_next, passed, all_touches}
use Rattle.object_table.proofs.Lists.{held_here, held_else}
use Rattle.object_table.proofs.Touching.{and_left, and_right}
use Rattle.object_table.proofs.Passing.{both}
use Rattle.task_machine.specs.Playing.{Contents, Played, with_cell, put_in, where_held, writable, cell_of, counted, played, touches}
use Rattle.task_machine.specs.Telling.{Agrees}
use Rattle.task_machine.proofs.Telling.{no_take, same_holds, kept_fit, held_to_write}
use Rattle.task_suspend.specs.Ties.{to_go}
use Rattle.task_suspend.proofs.Walking.{upcoming_is, moved_on, answered}

-- one touch at the front
passed_first : (t : ℕ) (v : View) → passed (suc t) v ≡ passed t (touched v)
passed_first zero v = refl
passed_first (suc t) v = ap touched (passed_first t v)

all_first : (t : ℕ) (v : View) → touch_next v ≡ true → all_touches t (touched v) ≡ true → all_touches (suc t) v ≡ true
all_first zero v e h = e
all_first (suc t) v e h =
    both (all_touches (suc t) v) (touch_next (passed (suc t) v))
    (all_first t v e (and_left (all_touches t (touched v)) (touch_next (passed t (touched v))) h))
    (ap touch_next (passed_first t v) ∙ and_right (all_touches t (touched v)) (touch_next (passed t (touched v))) h)

-- a write changes by the pass what it changes by the machine
same_put : (c : ℕ) (v : ℤ) (w : Option Held) → content_with c v w ≡ put_in c v w
same_put c v None = refl
same_put c v (Some x) = refl

written_same : (hs : List (Option Held)) (k : Contents) → ((j : ℕ) → held_at j hs ≡ k j) → (o c : ℕ) (v : ℤ) (j : ℕ)
    → held_at j (put_held o (content_with c v (held_at o hs)) hs) ≡ with_cell o c v k j
written_same hs k same o c v j = go (cases_eq j o)
  where
    go : (j ≡ o) ⊎ (j ≡ o → ⊥) → held_at j (put_held o (content_with c v (held_at o hs)) hs) ≡ (if nat_eq j o then put_in c v (k j) else k j)
    go (inl e) =
        ap (λ i. held_at i (put_held o (content_with c v (held_at o hs)) hs)) e ∙ held_here o (content_with c v (held_at o hs)) hs
        ∙ ap (content_with c v) (same o) ∙ same_put c v (k o) ∙ ap (λ i. put_in c v (k i)) (sym e)
        ∙ sym (ap (λ b. if b then put_in c v (k j) else k j) (eq-eqb j o e))
    go (inr ne) =
        held_else o j (content_with c v (held_at o hs)) hs ne ∙ same j ∙ sym (ap (λ b. if b then put_in c v (k j) else k j) (ne_eqb j o ne))

-- so many touches come next, and after them the course is told from where it is played up to, with what is held then
pub record Comes (t : ℕ) (x : Played) (spec : Specification) (h : Holds) (v : View) : Type 0 where
  pub touches : all_touches t v ≡ true
  pub tells : (vs : List ℤ) → to_go (passed t v).seat.walker vs ≡ events x.course spec h x.steps vs
  pub held : (j : ℕ) → held_at j (passed t v).held ≡ x.contents j

one_touch : (t : ℕ) (x : Played) (spec : Specification) (h : Holds) (v w : View) → touch_next v ≡ true → touched v ≡ w → Comes t x spec h w
    → Comes (suc t) x spec h v
one_touch t x spec h v w next is c =
    let P : View → Type 0 = λ u. Comes t x spec h u in
    let d : Comes t x spec h (touched v) = subst P (sym is) c in
    record {
      touches = all_first t v next d.touches;
      tells = λ vs. ap (λ (u : View). to_go u.seat.walker vs) (passed_first t v) ∙ d.tells vs;
      held = λ j. ap (λ (u : View). held_at j u.held) (passed_first t v) ∙ d.held j;
    }

-- where the course is told and this is held, it comes to that
abbrev ComesOn : Course → Contents → Type 0
ComesOn c k =
    (n e : ℕ) (spec : Specification) (h : Holds) (v : View) → Agrees spec h k → ((vs : List ℤ) → to_go v.seat.walker vs ≡ events c spec h n vs)
    → ((j : ℕ) → held_at j v.held ≡ k j) → Comes (length (touches c k)) (played c k n e) spec h v

module _ (k : Contents) (n e : ℕ) (spec : Specification) (h : Holds) (v : View) (fit : Agrees spec h k)
    (same : (j : ℕ) → held_at j v.held ≡ k j)
  where
    reads_on : (o c : ℕ) (on : ℤ → Course) (w : Option Held) → k o ≡ w → ((u : ℤ) → ComesOn (on u) k)
        → ((vs : List ℤ) → to_go v.seat.walker vs ≡ events (Reads o c on) spec h n vs)
        → Comes (length (where_held w (λ x. TouchRead o c (cell_of x c) ∷ touches (on (cell_of x c)) k) []))
        (where_held w (λ x. played (on (cell_of x c)) k n (counted e)) (record { course = Reads o c on; contents = k; steps = n; events = e })) spec h v
    reads_on o c on None q ih told = record { touches = refl; tells = told; held = same }
    reads_on o c on (Some x) q ih told =
        let u = cell_of x c in
        let first = upcoming_is v.seat.walker ∙ told [] ∙ ap (λ es. es ++ Wants o c ∷ []) (no_take spec h k fit o x q) in
        let after : View = record v { seat = seat_after (Some u) v.seat } in
        let is : touched v ≡ after = ap (λ es. touched_first es v) first
        ∙ ap (λ y. record v { seat = seat_after (Some (value_in (cells_of y) c)) v.seat }) (same o ∙ q) in
        let next : (vs : List ℤ) → to_go after.seat.walker vs ≡ events (on u) spec h n vs =
        λ vs. answered v.seat.walker u vs (TouchRead o c u) (events (on u) spec h n vs)
        (told (u ∷ vs) ∙ ap₂ (λ es g. es ++ TouchRead o c u ∷ events (on u) spec g n vs) (no_take spec h k fit o x q) (same_holds spec h k fit o x q)) in
        one_touch (length (touches (on u) k)) (played (on u) k n (counted e)) spec h v after (ap touches_first first) is
        (ih u n (counted e) spec h after fit next same)

    writes_on : (o c : ℕ) (a : ℤ) (on : Course) (w : Option Held) → writable (k o) ≡ w → ComesOn on (with_cell o c a k)
        → ((vs : List ℤ) → to_go v.seat.walker vs ≡ events (Writes o c a on) spec h n vs)
        → Comes (length (where_held w (λ x. TouchWrite o c a ∷ touches on (with_cell o c a k)) []))
        (where_held w (λ x. played on (with_cell o c a k) n (counted e)) (record { course = Writes o c a on; contents = k; steps = n; events = e })) spec h v
    writes_on o c a on None q ih told = record { touches = refl; tells = told; held = same }
    writes_on o c a on (Some x) q ih told =
        let there = held_to_write (k o) x q in
        let tells : (vs : List ℤ) → to_go v.seat.walker vs ≡ TouchWrite o c a ∷ events on spec h n vs = λ vs. told vs
        ∙ ap₂ (λ es g. es ++ TouchWrite o c a ∷ events on spec g n vs) (no_take spec h k fit o x there) (same_holds spec h k fit o x there) in
        let first = upcoming_is v.seat.walker ∙ tells [] in
        let after : View = record v { seat = seat_after None v.seat; held = put_held o (content_with c a (held_at o v.held)) v.held } in
        let is : touched v ≡ after = ap (λ es. touched_first es v) first in
        one_touch (length (touches on (with_cell o c a k))) (played on (with_cell o c a k) n (counted e)) spec h v after (ap touches_first first) is
        (ih n (counted e) spec h after (kept_fit spec h k o c a fit) (λ vs. moved_on v.seat.walker vs (TouchWrite o c a) (events on spec h n vs) (tells vs))
        (written_same v.held k same o c a))

pub comes_on : (c : Course) (k : Contents) → ComesOn c k
comes_on (Reads o c on) k n e spec h v fit told same = reads_on k n e spec h v fit same o c on (k o) refl (λ u. comes_on (on u) k) told
comes_on (Writes o c a on) k n e spec h v fit told same =
    writes_on k n e spec h v fit same o c a on (writable (k o)) refl (comes_on on (with_cell o c a k)) told
comes_on (Steps on) k n e spec h v fit told same = let r = comes_on on k (suc n) e spec h v fit told same in record
    { touches = r.touches; tells = r.tells; held = r.held }
comes_on (Creates made body on) k n e spec h v fit told same = record { touches = refl; tells = told; held = same }
comes_on (Changes new on) k n e spec h v fit told same = record { touches = refl; tells = told; held = same }
comes_on (Ends b) k n e spec h v fit told same = record { touches = refl; tells = told; held = same }
