-- What each task comes to.
use Rattle.std.proofs.Common.{◌≡◌, ℕ, zero, suc, ◌+◌, ◌-◌, ◌<◌, ◌≤◌, ◌⊎◌, inl, inr, List, [], ◌∷◌, ◌++◌, map, Option, Some, None, refl, sym, ap, ◌∙◌, arith}
use Rattle.std.specs.Prelude.{ℤ, slice_get, slice_index_or, slice_set, if◌then◌else◌}
use Rattle.std.proofs.lemmas.Bool.{cases_eq, eq-eqb, ne_eqb}
use Rattle.std.proofs.Math.Path.{fun_ext}
use Rattle.jade_base.specs.declared.report.Blame.{Blame}
use Rattle.jade_base.specs.Held.{Held}
use Rattle.jade_syntax.specs.Abstract.{AbstractProgram}
use Rattle.jade_syntax.specs.Objects.{sizes}
use Rattle.jade_meaning.specs.Course.{Course, Reads, Writes, Steps, Creates, Changes, Ends, root_course, limit_blame}
use Rattle.jade_meaning.specs.Serial as serial
use Rattle.jade_meaning.specs.Serial.{Path, Store, Mark, DidRead, DidWrite, own, under, done_to, after, cell, zeros}
use Rattle.jade_meaning.specs.Answer.{Run, Stopped, Through, noted, noted_all, then_on, stopping}
use Rattle.task_machine.specs.Playing.{Contents, Played, put_in, with_cell, cell_of, where_held, writable, counted, played}
use Rattle.serial_machine.specs.steps.Settles.{number_in, settles, resolved, SettlesAs, Ending, Fault, Whole, at_once, AnswersAs, PlaysOn, RunsOut}
use Rattle.task_machine.specs.Whole.{held_of, all_held}

-- ---- stores

cell_is : (store : Store) (o c : ℕ) → number_in (held_of (slice_get store o)) c ≡ cell store o c
cell_is [] o c = refl
cell_is (x ∷ store) zero c = refl
cell_is (x ∷ store) (suc o) c = cell_is store o c

set_same : (store : Store) (o c : ℕ) (v : ℤ) → held_of (slice_get (slice_set store o (slice_set (slice_index_or store o []) c v)) o) ≡ put_in
    c v (held_of (slice_get store o))
set_same [] o c v = refl
set_same (x ∷ store) zero c v = refl
set_same (x ∷ store) (suc o) c v = set_same store o c v

set_other : (store : Store) (o j : ℕ) (x : List ℤ) → (j ≡ o → ⊥) → slice_get (slice_set store o x) j ≡ slice_get store j
set_other [] o j x ne = refl
set_other (y ∷ store) zero zero x ne = absurd (ne refl)
set_other (y ∷ store) zero (suc j) x ne = refl
set_other (y ∷ store) (suc o) zero x ne = refl
set_other (y ∷ store) (suc o) (suc j) x ne = set_other store o j x (λ e. ne (ap suc e))

written_is : (store : Store) (o c : ℕ) (v : ℤ) → with_cell o c v (all_held store) ≡ all_held (serial.with_cell store o c v)
written_is store o c v = fun_ext (λ j. each j (cases_eq j o))
  where
    each : (j : ℕ) → (j ≡ o) ⊎ (j ≡ o → ⊥) → with_cell o c v (all_held store) j ≡ all_held (serial.with_cell store o c v) j
    each j (inl same) =
        ap (λ b. if b then put_in c v (held_of (slice_get store j)) else held_of (slice_get store j)) (eq-eqb j o same)
        ∙ ap (λ i. put_in c v (held_of (slice_get store i))) same
        ∙ sym (ap (λ i. held_of (slice_get (serial.with_cell store o c v) i)) same ∙ set_same store o c v)
    each j (inr ne) =
        ap (λ b. if b then put_in c v (held_of (slice_get store j)) else held_of (slice_get store j)) (ne_eqb j o ne)
        ∙ sym (ap held_of (set_other store o j (slice_set (slice_index_or store o []) c v) ne))

after_under : (k : ℕ) (ms : List Mark) (store : Store) → after (map (under k) ms) store ≡ after ms store
after_under k [] store = refl
after_under k (m ∷ ms) store = after_under k ms (done_to m.deed store)

after_both : (ms ns : List Mark) (store : Store) → after (ms ++ ns) store ≡ after ns (after ms store)
after_both [] ns store = refl
after_both (m ∷ ms) ns store = after_both ms ns (done_to m.deed store)

module _ (bad : Path → Blame → Ending) (ok : ℕ → Contents → Ending) where
  noted_is : (m : Mark) (r : Run) (store : Store) → resolved (noted m r) store bad ok ≡ resolved r (done_to m.deed store) bad ok
  noted_is m (Stopped p b ms) store = refl
  noted_is m (Through left ms) store = refl

  noted_all_is : (ns : List Mark) (r : Run) (store : Store) → resolved (noted_all ns r) store bad ok ≡ resolved r (after ns store) bad ok
  noted_all_is ns (Stopped p b ms) store = refl
  noted_all_is ns (Through left ms) store = ap (λ t. ok left (all_held t)) (after_both ns ms store)

  then_is : (k : ℕ) (r : Run) (store : Store) (on : ℕ → List Mark → Run) (next : ℕ → Contents → Ending)
      → ((less : ℕ) (ms : List Mark) → next less (all_held (after ms store)) ≡ resolved (on less ms) (after ms store) bad ok)
      → resolved r store (λ p b. bad (k ∷ p) b) next ≡ resolved (then_on k r on) store bad ok
  then_is k (Stopped p b ms) store on next h = refl
  then_is k (Through less ms) store on next h =
      h less ms
      ∙ sym (noted_all_is (map (under k) ms) (on less ms) store ∙ ap (λ t. resolved (on less ms) t bad ok) (after_under k ms store))

pub settles_as : (c : Course) (k left : ℕ) (store : Store) → SettlesAs c k left store
settles_as (Reads o c on) k left store bad ok =
    ap (λ v. settles at_once (on v) k left (all_held store) bad ok) (cell_is store o c)
    ∙ settles_as (on (cell store o c)) k left store bad ok
    ∙ sym (noted_is bad ok (own k (DidRead o c (cell store o c))) (stopping (on (cell store o c)) k left store) store)
settles_as (Writes o c v on) k left store bad ok =
    ap (λ s. settles at_once on k left s bad ok) (written_is store o c v)
    ∙ settles_as on k left (serial.with_cell store o c v) bad ok
    ∙ sym (noted_is bad ok (own k (DidWrite o c v)) (stopping on k left (serial.with_cell store o c v)) store)
settles_as (Steps on) k zero store bad ok = refl
settles_as (Steps on) k (suc left) store bad ok = settles_as on k left store bad ok
settles_as (Creates child body on) k left store bad ok =
    settles_as body 0 left store (λ p b. bad (k ∷ p) b) (λ less t. settles at_once on (suc k) less t bad ok)
    ∙ then_is bad ok k (stopping body 0 left store) store (λ less ms. stopping on (suc k) less (after ms store))
    (λ less t. settles at_once on (suc k) less t bad ok) (λ less ms. settles_as on (suc k) less (after ms store) bad ok)
settles_as (Changes new on) k left store bad ok = settles_as on k left store bad ok
settles_as (Ends None) k left store bad ok = refl
settles_as (Ends (Some b)) k left store bad ok = refl

pub answers_as : (p : AbstractProgram) (ns : List ℤ) (limit : ℕ) → AnswersAs p ns limit
answers_as p ns limit =
    let store = zeros (sizes p.items) in
    let root = root_course p ns limit in
    settles_as root 0 limit store (λ q b. Fault (0 ∷ q) b) (λ left s. Whole s)
    ∙ then_is Fault (λ left s. Whole s) 0 (stopping root 0 limit store) store (λ left ms. Through left []) (λ left s. Whole s) (λ less ms. refl)

-- ---- tasks that were played

steps_held : (w : Option Held) (f : Held → Played) (t : Played) (n : ℕ) → n ≤ t.steps → ((h : Held) → n ≤ (f h).steps) → n ≤ (where_held w f t).steps
steps_held None f t n le g = le
steps_held (Some h) f t n le g = g h

steps_least : (c : Course) (s : Contents) (n e : ℕ) → n ≤ (played c s n e).steps
steps_least (Reads o c on) s n e =
    steps_held (s o) (λ h. played (on (cell_of h c)) s n (counted e)) (record { course = Reads o c on; contents = s; steps = n; events = e }) n
    (omega arith) (λ h. steps_least (on (cell_of h c)) s n (counted e))
steps_least (Writes o c v on) s n e =
    steps_held (writable (s o)) (λ h. played on (with_cell o c v s) n (counted e))
    (record { course = Writes o c v on; contents = s; steps = n; events = e }) n
    (omega arith) (λ h. steps_least on (with_cell o c v s) n (counted e))
steps_least (Steps on) s n e = let le = steps_least on s (suc n) e in omega (arith, le)
steps_least (Creates spec body on) s n e = omega arith
steps_least (Changes spec on) s n e = omega arith
steps_least (Ends b) s n e = omega arith

module _ {A : Type 0} (pause : A → A) where
  module _ (k : ℕ) (bad : Path → Blame → A) (ok : ℕ → Contents → A) where
    -- what is left once it was played to there
    abbrev left_at : Played → ℕ → A
    left_at t left = settles pause t.course k left t.contents bad ok

    stays : (c : Course) (s : Contents) (n d left : ℕ) → n ≡ n + d → settles pause c k left s bad ok ≡ settles pause c k (left - d) s bad ok
    stays c s n d left e = let z : left ≡ left - d = omega (arith, e) in ap (λ l. settles pause c k l s bad ok) z

    held_on : (w : Option Held) (x : A) (f : Held → Played) (t : Played) (n d left : ℕ) → (t.steps ≡ n + d → x ≡ left_at t (left - d))
        → ((h : Held) → w ≡ Some h → (f h).steps ≡ n + d → x ≡ left_at (f h) (left - d)) → (where_held w f t).steps ≡ n + d
        → x ≡ left_at (where_held w f t) (left - d)
    held_on None x f t n d left h g e = h e
    held_on (Some held) x f t n d left h g e = g held refl e

    held_out : (w : Option Held) (x y : A) (f : Held → Played) (t : Played) (n d : ℕ) → (t.steps ≡ n + d → x ≡ y)
        → ((h : Held) → (f h).steps ≡ n + d → w ≡ Some h → x ≡ y) → (where_held w f t).steps ≡ n + d → x ≡ y
    held_out None x y f t n d h g e = h e
    held_out (Some held) x y f t n d h g e = g held e refl

  pub plays_on : (c : Course) (s : Contents) → PlaysOn pause c s
  plays_on (Reads o c on) s k n e d left bad ok q le =
      held_on k bad ok (s o) (settles pause (Reads o c on) k left s bad ok) (λ h. played (on (cell_of h c)) s n (counted e))
      (record { course = Reads o c on; contents = s; steps = n; events = e }) n d left
      (λ f. stays k bad ok (Reads o c on) s n d left f)
      (λ h some f.
      ap (λ w. settles pause (on (number_in w c)) k left s bad ok) some ∙ plays_on (on (cell_of h c)) s k n (counted e) d left bad ok f le)
      q
  plays_on (Writes o c v on) s k n e d left bad ok q le =
      held_on k bad ok (writable (s o)) (settles pause (Writes o c v on) k left s bad ok) (λ h. played on (with_cell o c v s) n (counted e))
      (record { course = Writes o c v on; contents = s; steps = n; events = e }) n d left
      (λ f. stays k bad ok (Writes o c v on) s n d left f)
      (λ h some f. plays_on on (with_cell o c v s) k n (counted e) d left bad ok f le)
      q
  plays_on (Steps on) s k n e d zero bad ok q le = let more = steps_least on s (suc n) e in absurd (omega (arith, q, le, more))
  plays_on (Steps on) s k n e d (suc left) bad ok q le =
      let more = steps_least on s (suc n) e in
      let f : (played on s (suc n) e).steps ≡ suc n + (d - 1) = omega (arith, q, more) in
      let z : left - (d - 1) ≡ suc left - d = omega (arith, q, more, le) in
      plays_on on s k (suc n) e (d - 1) left bad ok f (omega (arith, le))
      ∙ ap (λ l. settles pause (played on s (suc n) e).course k l (played on s (suc n) e).contents bad ok) z
  plays_on (Creates spec body on) s k n e d left bad ok q le = stays k bad ok (Creates spec body on) s n d left q
  plays_on (Changes spec on) s k n e d left bad ok q le = stays k bad ok (Changes spec on) s n d left q
  plays_on (Ends b) s k n e d left bad ok q le = stays k bad ok (Ends b) s n d left q

  pub runs_out : (c : Course) (s : Contents) → RunsOut pause c s
  runs_out (Reads o c on) s k n e d left bad ok q lt =
      held_out k bad ok (s o) (settles pause (Reads o c on) k left s bad ok) (bad [] limit_blame) (λ h. played (on (cell_of h c)) s n (counted e))
      (record { course = Reads o c on; contents = s; steps = n; events = e }) n d
      (λ f. absurd (omega (arith, f, lt)))
      (λ h f some.
      ap (λ w. settles pause (on (number_in w c)) k left s bad ok) some ∙ runs_out (on (cell_of h c)) s k n (counted e) d left bad ok f lt)
      q
  runs_out (Writes o c v on) s k n e d left bad ok q lt =
      held_out k bad ok (writable (s o)) (settles pause (Writes o c v on) k left s bad ok) (bad [] limit_blame)
      (λ h. played on (with_cell o c v s) n (counted e)) (record { course = Writes o c v on; contents = s; steps = n; events = e }) n d
      (λ f. absurd (omega (arith, f, lt)))
      (λ h f some. runs_out on (with_cell o c v s) k n (counted e) d left bad ok f lt)
      q
  runs_out (Steps on) s k n e d zero bad ok q lt = refl
  runs_out (Steps on) s k n e d (suc left) bad ok q lt =
      let more = steps_least on s (suc n) e in
      let f : (played on s (suc n) e).steps ≡ suc n + (d - 1) = omega (arith, q, more) in
      runs_out on s k (suc n) e (d - 1) left bad ok f (omega (arith, lt))
  runs_out (Creates spec body on) s k n e d left bad ok q lt = absurd (omega (arith, q, lt))
  runs_out (Changes spec on) s k n e d left bad ok q lt = absurd (omega (arith, q, lt))
  runs_out (Ends b) s k n e d left bad ok q lt = absurd (omega (arith, q, lt))

  -- where as much is still to be played, and as many steps more were begun as there are less, two tasks come to the same
  pub plays_same : (c : Course) (s : Contents) (e : ℕ) (b : Course) (t : Contents) (d f k left : ℕ) (bad : Path → Blame → A) (ok : ℕ → Contents → A)
      → played c s 0 e ≡ played b t d f → d ≤ left → settles pause c k left s bad ok ≡ settles pause b k (left - d) t bad ok
  plays_same c s e b t d f k left bad ok same le = by (le_or_lt (played c s 0 e).steps left)
    where
      le_or_lt : (i m : ℕ) → (i ≤ m) ⊎ (m < i)
      le_or_lt zero m = inl (omega arith)
      le_or_lt (suc i) zero = inr (omega arith)
      le_or_lt (suc i) (suc m) = next (le_or_lt i m)
        where
          next : (i ≤ m) ⊎ (m < i) → (suc i ≤ suc m) ⊎ (suc m < suc i)
          next (inl h) = inl (omega (arith, h))
          next (inr h) = inr (omega (arith, h))

      least : d ≤ (played b t d f).steps
      least = steps_least b t d f

      all : ℕ
      all = (played c s 0 e).steps

      steps : (played b t d f).steps ≡ all
      steps = ap (λ p. p.steps) (sym same)

      by : (all ≤ left) ⊎ (left < all) → settles pause c k left s bad ok ≡ settles pause b k (left - d) t bad ok
      by (inl h) =
          let z : all ≡ 0 + all = omega arith in
          let y : (played b t d f).steps ≡ d + (all - d) = omega (arith, steps, least) in
          let x : left - all ≡ left - d - (all - d) = omega (arith, steps, least, h) in
          plays_on c s k 0 e all left bad ok z h
          ∙ ap (λ p. settles pause p.course k (left - all) p.contents bad ok) same
          ∙ ap (λ l. settles pause (played b t d f).course k l (played b t d f).contents bad ok) x
          ∙ sym (plays_on b t k d f (all - d) (left - d) bad ok y (omega (arith, h, steps, least)))
      by (inr h) =
          let z : all ≡ 0 + all = omega arith in
          let y : (played b t d f).steps ≡ d + (all - d) = omega (arith, steps, least) in
          runs_out c s k 0 e all left bad ok z h ∙ sym (runs_out b t k d f (all - d) (left - d) bad ok y (omega (arith, h, steps, least, le)))
