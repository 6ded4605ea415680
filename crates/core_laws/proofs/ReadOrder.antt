-- The reads of tasks that do not commute stand in the serial order of parts among the works on their objects: one induction over a run.
use Rattle.std.proofs.Common.{◌≡◌, ◌≢◌, ℕ, suc, Bool, true, false, List, [], ◌∷◌, ◌++◌, Option, Some, None, refl, sym, ap, ◌∙◌, subst, append-nil, append_assoc, le_refl, lt-suc_self, ◌⊎◌, inl, inr}
use Rattle.std.specs.Prelude.{ℤ, nat_eq, if◌then◌else◌}
use Rattle.std.specs.List.{cons_option, filter_map}
use Rattle.std.proofs.lemmas.Bool.Decides.{eqb_tells}
use Rattle.std.proofs.lemmas.Bool.{eq-eqb}
use Rattle.std.proofs.lemmas.List.Elements.{filter_map-append}
use Rattle.jade_base.specs.Places.{is_before, key}
use Rattle.jade_syntax.specs.Abstract.{AbstractProgram}
use Rattle.jade_syntax.specs.Objects.{sizes}
use Rattle.jade_meaning.specs.Course.{Course, root_spec, root_course}
use Rattle.jade_meaning.specs.Laws.{Every}
use Rattle.jade_meaning.specs.Proper.{Proper, proper_read, proper_write, proper_step, proper_create, proper_change, proper_end}
use Rattle.jade_meaning.specs.Serial.{Path, Store, Mark, Deed, DidTurn, DidRead, DidWrite, DidCreate, DidEnd, after, cell, with_cell, zeros}
use Rattle.jade_meaning.specs.Specification.{Specification, rights_on, objects, commuting_on, allows_commuting}
use Rattle.jade_meaning.specs.Turns.{Member, World, at_path, bared, group, others, arranged, turn, turns_taken, settle, settled, settle_all, entered, run, touched_at_once, made_touchable, marks_by, seen_by, kept_from}
use Rattle.jade_meaning.proofs.Filling.{others_not, every_two}
use Rattle.schedule_core.specs.Works.{Work, Wrote, Turned, work_on, works_on}
use Rattle.schedule_core.proofs.Behind.{flat_children}
use Rattle.schedule_core.proofs.Groups.{Spares, every_append, every_front, every_back, every_arranged, every_group, every_others}
use Rattle.schedule_core.proofs.Keys.{own_before, part_before}
use Rattle.schedule_core.proofs.Ascending.{asym}
use Rattle.schedule_core.proofs.Running.{every_by}
use Rattle.schedule_core.proofs.Soles.{proper_sole, bared_proper}
use Rattle.core_laws.specs.KeyOrder.{key_of_work, TakesTurn}
use Rattle.core_laws.specs.ReadOrder.{TakesNone, ReadsStandByKey}
use Rattle.core_laws.proofs.KeyOrder.{Simple, not_itself, no_later, works_both, turn_last, child_ends}

-- a read of an object, or a work on it, with the key of its part
data Item : Type 0 where
  read : Path → Path → Item
  work : Path → Item

module _ (N : Path → Type 0) where
  -- an item may stand before another, if one is a read of a task of this kind
  abbrev Stands : Item → Item → Type 0
  Stands (read p k) (work j) = N p → is_before j k ≡ false
  Stands (work k) (read q j) = N q → is_before j k ≡ false
  Stands (read p k) (read q j) = Unit {0}
  Stands (work k) (work j) = Unit {0}

  abbrev Sorted : List Item → Type 0
  Sorted [] = Unit {0}
  Sorted (x ∷ xs) = Every (Stands x) xs × Sorted xs

  -- no later than a key
  abbrev Low : Path → Item → Type 0
  Low c (read p k) = N p → is_before c k ≡ false
  Low c (work k) = is_before c k ≡ false

  -- a work of this key may follow
  abbrev Before : Path → Item → Type 0
  Before c (read p k) = N p → is_before c k ≡ false
  Before c (work k) = Unit {0}

  -- no read of a task of this kind
  abbrev Calm : Item → Type 0
  Calm (read p k) = N p → ⊥
  Calm (work k) = Unit {0}

  -- a work that may follow some items
  abbrev Fits : List Item → Path → Item → Type 0
  Fits xs c (read p k) = Unit {0}
  Fits xs c (work k) = Every (Before k) xs × (is_before c k ≡ false)

  low_before : (c : Path) (x : Item) → Low c x → Before c x
  low_before c (read p k) h = h
  low_before c (work k) h = tt

  lower : (c d : Path) → is_before c d ≡ true → (x : Item) → Low c x → Low d x
  lower c d lt (read p k) h = λ n. no_later c d k lt (h n)
  lower c d lt (work k) h = no_later c d k lt h

  calm_before : (c : Path) (x : Item) → Calm x → Before c x
  calm_before c (read p k) h = λ n. absurd (h n)
  calm_before c (work k) h = tt

  calm_stands : (x y : Item) → Calm x → Calm y → Stands x y
  calm_stands (read p k) (work j) h g = λ n. absurd (h n)
  calm_stands (work k) (read q j) h g = λ n. absurd (g n)
  calm_stands (read p k) (read q j) h g = tt
  calm_stands (work k) (work j) h g = tt

  calm_sorted : (xs : List Item) → Every Calm xs → Sorted xs
  calm_sorted [] h = tt
  calm_sorted (x ∷ xs) h = (every_by Calm (Stands x) (λ y g. calm_stands x y h.0 g) xs h.1, calm_sorted xs h.1)

  sorted_both : (a b : List Item) → Sorted a → Sorted b → Every (λ (x : Item). Every (Stands x) b) a → Sorted (a ++ b)
  sorted_both [] b h g k = g
  sorted_both (x ∷ a) b h g k = (every_append (Stands x) a b h.0 k.0, sorted_both a b h.1 g k.1)

  follows : (xs : List Item) (c : Path) (y : Item) → Calm y → Fits xs c y → Every (λ (x : Item). Stands x y) xs
  follows xs c (read q j) n f = every_true xs
    where
      one : (x : Item) → Stands x (read q j)
      one (read p k) = tt
      one (work k) = λ m. absurd (n m)

      every_true : (xs : List Item) → Every (λ (x : Item). Stands x (read q j)) xs
      every_true [] = tt
      every_true (x ∷ xs) = (one x, every_true xs)
  follows xs c (work j) n f = every_by (Before j) (λ (x : Item). Stands x (work j)) one xs f.0
    where
      one : (x : Item) → Before j x → Stands x (work j)
      one (read p k) h = h
      one (work k) h = tt

  -- of each with each
  crossed : (a b : List Item) → Every (λ (y : Item). Every (λ (x : Item). Stands x y) a) b → Every (λ (x : Item). Every (Stands x) b) a
  crossed a [] h = nothing a
    where
      nothing : (a : List Item) → Every (λ (x : Item). Unit {0}) a
      nothing [] = tt
      nothing (x ∷ a) = (tt, nothing a)
  crossed a (y ∷ b) h = every_two (λ (x : Item). Stands x y) (λ (x : Item). Every (Stands x) b) (λ (x : Item). Every (Stands x) (y ∷ b)) (λ x e f. (e, f)) a h.0 (crossed a b h.1)

  fits_low : (xs : List Item) (c : Path) (y : Item) → Calm y → Fits xs c y → Low c y
  fits_low xs c (read q j) n f = λ m. absurd (n m)
  fits_low xs c (work j) n f = f.1

  -- a turn of a task of this kind is barred
  abbrev Barred : Mark → Type 0
  Barred m = (x : ℕ) → m.deed ≡ DidTurn x → N m.path → ⊥

  module _ (o : ℕ) where
    abbrev item_on : Deed → Path → ℕ → Option Item
    item_on (DidRead x c v) q k = if nat_eq x o then Some (read q (key q k)) else None
    item_on (DidWrite x c v) q k = if nat_eq x o then Some (work (key q k)) else None
    item_on (DidTurn x) q k = if nat_eq x o then Some (work (key q 0)) else None
    item_on (DidCreate x n) q k = None
    item_on (DidEnd x n) q k = None

    abbrev items_on : List Mark → List Item
    items_on ms = filter_map (λ m. item_on m.deed m.path m.children) ms

    items_both : (a b : List Mark) → items_on (a ++ b) ≡ items_on a ++ items_on b
    items_both a b = filter_map-append (λ (m : Mark). item_on m.deed m.path m.children) a b

    glue : (xs : List Item) (a b : List Mark) → (xs ++ items_on a) ++ items_on b ≡ xs ++ items_on (a ++ b)
    glue xs a b = append_assoc xs (items_on a) (items_on b) ∙ ap (λ (z : List Item). xs ++ z) (sym (items_both a b))

    -- a task that waits and may take its turn after some items, none of which is later than a key
    record Ready (xs : List Item) (c : Path) (q : Member) : Type 0 where
      ok : Simple q
      early : is_before c (key q.path 0) ≡ false
      pending : q.object ≡ o → Every (Before (key q.path 0)) xs

    record State (xs : List Item) (ms : List Member) (c : Path) : Type 0 where
      sorted : Sorted xs
      low : Every (Low c) xs
      ready : Every (Ready xs c) ms

    later : (xs : List Item) (ms : List Member) (c d : Path) → is_before c d ≡ true → State xs ms c → State xs ms d
    later xs ms c d lt s = record {
      sorted = s.sorted;
      low = every_by (Low c) (Low d) (lower c d lt) xs s.low;
      ready = every_by (Ready xs c) (Ready xs d) (λ q r. record { ok = r.ok; early = no_later c d (key q.path 0) lt r.early; pending = r.pending }) ms s.ready;
    }

    ready_more : (xs new : List Item) (c : Path) → Every Calm new → (q : Member) → Ready xs c q → Ready (xs ++ new) c q
    ready_more xs new c calm q r = record {
      ok = r.ok;
      early = r.early;
      pending = λ e. every_append (Before (key q.path 0)) xs new (r.pending e) (every_by Calm (Before (key q.path 0)) (calm_before (key q.path 0)) new calm);
    }

    add_calm : (xs new : List Item) (ms : List Member) (c : Path) → Every Calm new → Every (Fits xs c) new → State xs ms c → State (xs ++ new) ms c
    add_calm xs new ms c calm fits s = record {
      sorted = sorted_both xs new s.sorted (calm_sorted new calm)
          (crossed xs new (every_two Calm (Fits xs c) (λ (y : Item). Every (λ (x : Item). Stands x y) xs) (λ y e f. follows xs c y e f) new calm fits));
      low = every_append (Low c) xs new s.low (every_two Calm (Fits xs c) (Low c) (λ y e f. fits_low xs c y e f) new calm fits);
      ready = every_by (Ready xs c) (Ready (xs ++ new) c) (ready_more xs new c calm) ms s.ready;
    }

    -- a turn's items
    turn_calm : (p : Path) → (N p → ⊥) → (ms : List Mark) → Every (λ (m : Mark). (m.path ≡ p) × (m.children ≡ 0)) ms → Every Calm (items_on ms)
    turn_calm p n [] h = tt
    turn_calm p n (m ∷ ms) h = one m.deed (turn_calm p n ms h.1)
      where
        one : (d : Deed) → Every Calm (items_on ms) → Every Calm (cons_option (item_on d m.path m.children) (items_on ms))
        one (DidRead x c v) r = go (nat_eq x o)
          where
            go : (b : Bool) → Every Calm (cons_option (if b then Some (read m.path (key m.path m.children)) else None) (items_on ms))
            go true = (λ k. n (subst N h.0.0 k), r)
            go false = r
        one (DidWrite x c v) r = go (nat_eq x o)
          where
            go : (b : Bool) → Every Calm (cons_option (if b then Some (work (key m.path m.children)) else None) (items_on ms))
            go true = (tt, r)
            go false = r
        one (DidTurn x) r = go (nat_eq x o)
          where
            go : (b : Bool) → Every Calm (cons_option (if b then Some (work (key m.path 0)) else None) (items_on ms))
            go true = (tt, r)
            go false = r
        one (DidCreate x k) r = r
        one (DidEnd x k) r = r

    -- of a task that waits there
    own_fits : (xs : List Item) (c p : Path) → Every (Before (key p 0)) xs → is_before c (key p 0) ≡ false → (ms : List Mark)
        → Every (λ (m : Mark). (m.path ≡ p) × (m.children ≡ 0)) ms → Every (Fits xs c) (items_on ms)
    own_fits xs c p after_all early [] h = tt
    own_fits xs c p after_all early (m ∷ ms) h = one m.deed (own_fits xs c p after_all early ms h.1)
      where
        at : (k : Path) → k ≡ key p 0 → Every (Before k) xs × (is_before c k ≡ false)
        at k e = subst (λ z. Every (Before z) xs × (is_before c z ≡ false)) (sym e) (after_all, early)

        one : (d : Deed) → Every (Fits xs c) (items_on ms) → Every (Fits xs c) (cons_option (item_on d m.path m.children) (items_on ms))
        one (DidRead x z v) r = go (nat_eq x o)
          where
            go : (b : Bool) → Every (Fits xs c) (cons_option (if b then Some (read m.path (key m.path m.children)) else None) (items_on ms))
            go true = (tt, r)
            go false = r
        one (DidWrite x z v) r = go (nat_eq x o)
          where
            go : (b : Bool) → Every (Fits xs c) (cons_option (if b then Some (work (key m.path m.children)) else None) (items_on ms))
            go true = (at (key m.path m.children) (ap (λ q. key q m.children) h.0.0 ∙ ap (key p) h.0.1), r)
            go false = r
        one (DidTurn x) r = go (nat_eq x o)
          where
            go : (b : Bool) → Every (Fits xs c) (cons_option (if b then Some (work (key m.path 0)) else None) (items_on ms))
            go true = (at (key m.path 0) (ap (λ q. key q 0) h.0.0), r)
            go false = r
        one (DidCreate x k) r = r
        one (DidEnd x k) r = r

    -- of one that waits elsewhere
    other_fits : (xs : List Item) (c : Path) (ms : List Mark) → Every (λ (m : Mark). Spares o m.deed) ms → Every (Fits xs c) (items_on ms)
    other_fits xs c [] h = tt
    other_fits xs c (m ∷ ms) h = one m.deed h.0 (other_fits xs c ms h.1)
      where
        one : (d : Deed) → Spares o d → Every (Fits xs c) (items_on ms) → Every (Fits xs c) (cons_option (item_on d m.path m.children) (items_on ms))
        one (DidRead x z v) e r = go (nat_eq x o)
          where
            go : (b : Bool) → Every (Fits xs c) (cons_option (if b then Some (read m.path (key m.path m.children)) else None) (items_on ms))
            go true = (tt, r)
            go false = r
        one (DidWrite x z v) e r = go (eqb_tells x o)
          where
            go : ((nat_eq x o ≡ true) × (x ≡ o)) ⊎ ((nat_eq x o ≡ false) × (x ≢ o))
                → Every (Fits xs c) (cons_option (if nat_eq x o then Some (work (key m.path m.children)) else None) (items_on ms))
            go (inl q) = absurd (e q.1)
            go (inr q) = subst (λ b. Every (Fits xs c) (cons_option (if b then Some (work (key m.path m.children)) else None) (items_on ms))) (sym q.0) r
        one (DidTurn x) e r = go (eqb_tells x o)
          where
            go : ((nat_eq x o ≡ true) × (x ≡ o)) ⊎ ((nat_eq x o ≡ false) × (x ≢ o))
                → Every (Fits xs c) (cons_option (if nat_eq x o then Some (work (key m.path 0)) else None) (items_on ms))
            go (inl q) = absurd (e q.1)
            go (inr q) = subst (λ b. Every (Fits xs c) (cons_option (if b then Some (work (key m.path 0)) else None) (items_on ms))) (sym q.0) r
        one (DidCreate x k) e r = r
        one (DidEnd x k) e r = r

    turn_fits : (xs : List Item) (c : Path) (q : Member) (s : Store) → Ready xs c q → Every (Fits xs c) (items_on (turn q s))
    turn_fits xs c q s r = go (eqb_tells q.object o)
      where
        go : ((nat_eq q.object o ≡ true) × (q.object ≡ o)) ⊎ ((nat_eq q.object o ≡ false) × (q.object ≢ o)) → Every (Fits xs c) (items_on (turn q s))
        go (inl e) = own_fits xs c q.path (r.pending e.1) r.early (turn q s) (r.ok.1 s)
        go (inr e) = other_fits xs c (turn q s) (r.ok.0.0 s o e.1)

    all_taken : (qs : List Member) (s : Store) (xs : List Item) (ms : List Member) (c : Path) → Every Barred (turns_taken qs s) → State xs ms c
        → Every (Ready xs c) qs → State (xs ++ items_on (turns_taken qs s)) ms c
    all_taken [] s xs ms c bar h g = subst (λ (x : List Item). State x ms c) (sym (append-nil xs)) h
    all_taken (q ∷ qs) s xs ms c bar h g =
        let d = turn q s in
        let rest = turns_taken qs (after d s) in
        let calm = turn_calm q.path ((every_front Barred d rest bar).0 q.object refl) d (g.0.ok.1 s) in
        let one = add_calm xs (items_on d) ms c calm (turn_fits xs c q s g.0) h in
        let more = every_by (Ready xs c) (Ready (xs ++ items_on d) c) (ready_more xs (items_on d) c calm) qs g.1 in
        subst (λ (x : List Item). State x ms c) (glue xs d rest) (all_taken qs (after d s) (xs ++ items_on d) ms c (every_back Barred d rest bar) one more)

    module _ (t : ℕ → List Path) where
      settle_keeps : (x : ℕ) (xs : List Item) (w : World) (c : Path) → Every Barred (settle t x w) → State xs w.waiting c
          → State (xs ++ items_on (settle t x w)) (settled t x w).waiting c
      settle_keeps x xs w c bar h =
          let s = all_taken (arranged (t x) (group x w.waiting)) w.store xs w.waiting c bar h
          (every_arranged (Ready xs c) (t x) (group x w.waiting) (every_group (Ready xs c) x w.waiting h.ready)) in
          record { sorted = s.sorted; low = s.low; ready = every_others (Ready (xs ++ items_on (settle t x w)) c) x w.waiting s.ready }

      all_settle : (os : List ℕ) (xs : List Item) (w : World) (c : Path) → Every Barred (settle_all t os w).marks → State xs w.waiting c
          → State (xs ++ items_on (settle_all t os w).marks) (settle_all t os w).world.waiting c
      all_settle [] xs w c bar h = subst (λ (z : List Item). State z w.waiting c) (sym (append-nil xs)) h
      all_settle (x ∷ os) xs w c bar h =
          let rest = settle_all t os (settled t x w) in
          let r = all_settle os (xs ++ items_on (settle t x w)) (settled t x w) c (every_back Barred (settle t x w) rest.marks bar)
          (settle_keeps x xs w c (every_front Barred (settle t x w) rest.marks bar) h) in
          subst (λ (z : List Item). State z rest.world.waiting c) (glue xs (settle t x w) rest.marks) r

      -- a read of a task that does not commute comes when nobody waits for its object
      reads_it : (xs : List Item) (ms : List Member) (p : Path) (k : ℕ) → Every (λ (q : Member). q.object ≢ o) ms → State xs ms (key p k)
          → State (xs ++ read p (key p k) ∷ []) ms (key p k)
      reads_it xs ms p k none s = record {
        sorted = sorted_both xs (read p (key p k) ∷ []) s.sorted (tt, tt)
            (every_by (Low (key p k)) (λ (x : Item). Every (Stands x) (read p (key p k) ∷ [])) stands xs s.low);
        low = every_append (Low (key p k)) xs (read p (key p k) ∷ []) s.low (λ n. not_itself (key p k), tt);
        ready = every_two (Ready xs (key p k)) (λ (q : Member). q.object ≢ o) (Ready (xs ++ read p (key p k) ∷ []) (key p k))
            (λ q r n. record { ok = r.ok; early = r.early; pending = λ e. absurd (n e) }) ms s.ready none;
      }
        where
          stands : (x : Item) → Low (key p k) x → Every (Stands x) (read p (key p k) ∷ [])
          stands (read q j) h = (tt, tt)
          stands (work j) h = (λ n. h, tt)

      wrote : (xs : List Item) (ms : List Member) (p : Path) (k : ℕ) → State xs ms (key p k) → State (xs ++ work (key p k) ∷ []) ms (key p k)
      wrote xs ms p k s =
          add_calm xs (work (key p k) ∷ []) ms (key p k) (tt, tt)
          ((every_by (Low (key p k)) (Before (key p k)) (low_before (key p k)) xs s.low, not_itself (key p k)), tt) s

      joins : (xs : List Item) (ms : List Member) (q : Member) (c d : Path) → Simple q → is_before c (key q.path 0) ≡ true → is_before (key q.path 0) d ≡ true
          → State xs ms c → State xs ms d → State xs (ms ++ q ∷ []) d
      joins xs ms q c d ok lt le s r = record {
        sorted = r.sorted;
        low = r.low;
        ready = every_append (Ready xs d) ms (q ∷ []) r.ready (
          record {
            ok = ok;
            early = asym (key q.path 0) d le;
            pending = λ e. every_by (Low c) (Before (key q.path 0)) (λ x i. low_before (key q.path 0) x (lower c (key q.path 0) lt x i)) xs s.low;
          },
          tt,
        );
      }

      run_keeps : {spec : Specification} {c : Course} → Proper spec c → (p : Path) (k n : ℕ) (w : World) (xs : List Item) (top : Path)
          → ((j : ℕ) → is_before (key p j) top ≡ true) → Every Barred (run t p spec c k n w).marks → State xs w.waiting (key p k)
          → State (xs ++ items_on (run t p spec c k n w).marks) (run t p spec c k n w).world.waiting top
      run_keeps {spec} (proper_read {o = x} {c = c} {on = on} i f) p k n w xs top ends bar h =
          let y = settled t x w in
          let v = cell y.store x c in
          let m = at_path p k (DidRead x c v) in
          let rest = run t p spec (on v) k n y in
          let front = settle t x w ++ m ∷ [] in
          subst (λ (z : List Item). State z rest.world.waiting top) (glue xs front rest.marks)
          (run_keeps (f v) p k n y (xs ++ items_on front) top ends (every_back Barred front rest.marks bar)
          (subst (λ (z : List Item). State z y.waiting (key p k)) (glue xs (settle t x w) (m ∷ []))
          (go (eqb_tells x o) (settle_keeps x xs w (key p k) (every_front Barred (settle t x w) (m ∷ []) (every_front Barred front rest.marks bar)) h))))
        where
          go : ((nat_eq x o ≡ true) × (x ≡ o)) ⊎ ((nat_eq x o ≡ false) × (x ≢ o)) → State (xs ++ items_on (settle t x w)) (others x w.waiting) (key p k)
              → State ((xs ++ items_on (settle t x w)) ++ cons_option (if nat_eq x o then Some (read p (key p k)) else None) []) (others x w.waiting) (key p k)
          go (inl e) s =
              let none = every_by (λ (q : Member). q.object ≢ x) (λ (q : Member). q.object ≢ o) (λ q k i. k (i ∙ sym e.1)) (others x w.waiting) (others_not x w.waiting) in
              subst (λ b. State ((xs ++ items_on (settle t x w)) ++ cons_option (if b then Some (read p (key p k)) else None) []) (others x w.waiting) (key p k)) (sym e.0)
              (reads_it (xs ++ items_on (settle t x w)) (others x w.waiting) p k none s)
          go (inr e) s =
              subst (λ b. State ((xs ++ items_on (settle t x w)) ++ cons_option (if b then Some (read p (key p k)) else None) []) (others x w.waiting) (key p k)) (sym e.0)
              (subst (λ z. State z (others x w.waiting) (key p k)) (sym (append-nil (xs ++ items_on (settle t x w)))) s)
      run_keeps {spec} (proper_write {o = x} {c = c} {v = v} {on = on} i f) p k n w xs top ends bar h =
          let y = settled t x w in
          let m = at_path p k (DidWrite x c v) in
          let after_it : World = record { store = with_cell y.store x c v; waiting = y.waiting } in
          let rest = run t p spec on k n after_it in
          let front = settle t x w ++ m ∷ [] in
          subst (λ (z : List Item). State z rest.world.waiting top) (glue xs front rest.marks)
          (run_keeps f p k n after_it (xs ++ items_on front) top ends (every_back Barred front rest.marks bar)
          (subst (λ (z : List Item). State z y.waiting (key p k)) (glue xs (settle t x w) (m ∷ []))
          (go (nat_eq x o) (settle_keeps x xs w (key p k) (every_front Barred (settle t x w) (m ∷ []) (every_front Barred front rest.marks bar)) h))))
        where
          go : (b : Bool) → State (xs ++ items_on (settle t x w)) (others x w.waiting) (key p k)
              → State ((xs ++ items_on (settle t x w)) ++ cons_option (if b then Some (work (key p k)) else None) []) (others x w.waiting) (key p k)
          go true s = wrote (xs ++ items_on (settle t x w)) (others x w.waiting) p k s
          go false s = subst (λ z. State z (others x w.waiting) (key p k)) (sym (append-nil (xs ++ items_on (settle t x w)))) s
      run_keeps {spec} (proper_step {on = on} f) p k n w xs top ends bar h = run_keeps f p k (suc n) w xs top ends bar h
      run_keeps {spec} (proper_create {child = child} {body = body} {on = on} none may cov size b f) p k n w xs top ends bar h =
          let q = p ++ k ∷ [] in
          let s = settle_all t (touched_at_once child) w in
          let inner = entered (commuting_on child) q child body (λ x. run t q child body 0 0 x) s.world in
          let rest = run t p spec on (suc k) 0 inner.world in
          let vs = xs ++ items_on s.marks in
          let both = every_front Barred (s.marks ++ inner.marks) rest.marks bar.1 in
          let here = all_settle (touched_at_once child) xs w (key p k) (every_front Barred s.marks inner.marks both) h in
          let there = go (commuting_on child) refl (every_back Barred s.marks inner.marks both) here
          (λ e z. run_keeps b q 0 0 s.world vs (key p (suc k)) (λ j. child_ends p k j) e z) in
          subst (λ (z : List Item). State z rest.world.waiting top) (glue xs (s.marks ++ inner.marks) rest.marks)
          (run_keeps f p (suc k) 0 inner.world (xs ++ items_on (s.marks ++ inner.marks)) top ends (every_back Barred (s.marks ++ inner.marks) rest.marks bar.1)
          (subst (λ (z : List Item). State z inner.world.waiting (key p (suc k))) (glue xs s.marks inner.marks) there))
        where
          go : (x : Option ℕ) → commuting_on child ≡ x
              → Every Barred (entered x (p ++ k ∷ []) child body (λ z. run t (p ++ k ∷ []) child body 0 0 z) (settle_all t (touched_at_once child) w).world).marks
              → State (xs ++ items_on (settle_all t (touched_at_once child) w).marks) (settle_all t (touched_at_once child) w).world.waiting (key p k)
              → (Every Barred (run t (p ++ k ∷ []) child body 0 0 (settle_all t (touched_at_once child) w).world).marks → State (xs ++ items_on (settle_all t (touched_at_once child) w).marks) (settle_all t (touched_at_once child) w).world.waiting (key (p ++ k ∷ []) 0)
              → State ((xs ++ items_on (settle_all t (touched_at_once child) w).marks) ++ items_on (run t (p ++ k ∷ []) child body 0 0 (settle_all t (touched_at_once child) w).world).marks) (run t (p ++ k ∷ []) child body 0 0 (settle_all t (touched_at_once child) w).world).world.waiting (key p (suc k)))
              → State ((xs ++ items_on (settle_all t (touched_at_once child) w).marks) ++ items_on (entered x (p ++ k ∷ []) child body (λ z. run t (p ++ k ∷ []) child body 0 0 z) (settle_all t (touched_at_once child) w).world).marks)
              (entered x (p ++ k ∷ []) child body (λ z. run t (p ++ k ∷ []) child body 0 0 z) (settle_all t (touched_at_once child) w).world).world.waiting (key p (suc k))
          go None e bar z r = r bar (later (xs ++ items_on (settle_all t (touched_at_once child) w).marks) (settle_all t (touched_at_once child) w).world.waiting (key p k) (key (p ++ k ∷ []) 0) (part_before p k k (le_refl k)) z)
          go (Some y) e bar z r =
              let m : Member = record {
                path = p ++ k ∷ [];
                object = y;
                course = (bared body 0).course;
                steps = (bared body 0).steps;
                kept = kept_from 0 (rights_on child) (settle_all t (touched_at_once child) w).world.store;
              } in
              let simple : Simple m = (
                proper_sole m (bared_proper b 0) e (subst (λ (x : Option ℕ). allows_commuting x child ≡ true) e may),
                λ st. ((refl, refl), flat_children (bared_proper b 0) y e (p ++ k ∷ []) 0 (bared body 0).steps (seen_by m st)),
              ) in
              subst (λ (u : List Item). State u ((settle_all t (touched_at_once child) w).world.waiting ++ m ∷ []) (key p (suc k))) (sym (append-nil (xs ++ items_on (settle_all t (touched_at_once child) w).marks)))
              (joins (xs ++ items_on (settle_all t (touched_at_once child) w).marks) (settle_all t (touched_at_once child) w).world.waiting m (key p k) (key p (suc k)) simple (part_before p k k (le_refl k)) (child_ends p k 0) z
              (later (xs ++ items_on (settle_all t (touched_at_once child) w).marks) (settle_all t (touched_at_once child) w).world.waiting (key p k) (key p (suc k)) (own_before p k (suc k) (lt-suc_self k)) z))
      run_keeps {spec} (proper_change {new = new} {on = on} none m f) p k n w xs top ends bar h =
          let s = settle_all t (made_touchable spec new) w in
          let rest = run t p new on k n s.world in
          subst (λ (z : List Item). State z rest.world.waiting top) (glue xs s.marks rest.marks)
          (run_keeps f p k n s.world (xs ++ items_on s.marks) top ends (every_back Barred s.marks rest.marks bar)
          (all_settle (made_touchable spec new) xs w (key p k) (every_front Barred s.marks rest.marks bar) h))
      run_keeps {spec} (proper_end {b = b}) p k n w xs top ends bar h =
          subst (λ (z : List Item). State z w.waiting top) (sym (append-nil xs)) (later xs w.waiting (key p k) top (ends k) h)

    -- the works among the items
    works_among : (P : Item → Type 0) (ms : List Mark) → Every P (items_on ms) → Every (λ (w : Work). P (work (key_of_work w))) (works_on o ms)
    works_among P [] h = tt
    works_among P (m ∷ ms) h = one m.deed h (λ r. works_among P ms r)
      where
        one : (d : Deed) → Every P (cons_option (item_on d m.path m.children) (items_on ms))
            → (Every P (items_on ms) → Every (λ (w : Work). P (work (key_of_work w))) (works_on o ms))
            → Every (λ (w : Work). P (work (key_of_work w))) (cons_option (work_on o d m.path m.children) (works_on o ms))
        one (DidRead x c v) h k = go (nat_eq x o) h
          where
            go : (b : Bool) → Every P (cons_option (if b then Some (read m.path (key m.path m.children)) else None) (items_on ms))
                → Every (λ (w : Work). P (work (key_of_work w))) (works_on o ms)
            go true h = k h.1
            go false h = k h
        one (DidWrite x c v) h k = go (nat_eq x o) h
          where
            go : (b : Bool) → Every P (cons_option (if b then Some (work (key m.path m.children)) else None) (items_on ms))
                → Every (λ (w : Work). P (work (key_of_work w))) (cons_option (if b then Some (Wrote m.path m.children c v) else None) (works_on o ms))
            go true h = (h.0, k h.1)
            go false h = k h
        one (DidTurn x) h k = go (nat_eq x o) h
          where
            go : (b : Bool) → Every P (cons_option (if b then Some (work (key m.path 0)) else None) (items_on ms))
                → Every (λ (w : Work). P (work (key_of_work w))) (cons_option (if b then Some (Turned m.path) else None) (works_on o ms))
            go true h = (h.0, k h.1)
            go false h = k h
        one (DidCreate x n) h k = k h
        one (DidEnd x n) h k = k h

    sorted_at : (a b : List Item) (x : Item) → Sorted (a ++ (x ∷ b)) → Every (λ (y : Item). Stands y x) a × Every (Stands x) b
    sorted_at [] b x h = (tt, h.0)
    sorted_at (y ∷ a) b x h = let r = sorted_at a b x h.1 in (((every_back (Stands y) a (x ∷ b) h.0).0, r.0), r.1)

-- all turns of a run are barred to those who take none
barred : (all front ms : List Mark) → all ≡ front ++ ms → Every (Barred (λ q. TakesNone q all)) ms
barred all front [] e = tt
barred all front (m ∷ ms) e = (
  λ x is n. n x (subst (λ (z : List Mark). TakesTurn m.path (works_on x z)) (sym e)
      (subst (TakesTurn m.path) (sym (works_both x front (m ∷ ms))) (turn_last m.path (works_on x front) (works_on x (m ∷ ms)) (here x is)))),
  barred all (front ++ m ∷ []) ms (e ∙ sym (append_assoc front (m ∷ []) ms)),
)
  where
    here : (x : ℕ) → m.deed ≡ DidTurn x → TakesTurn m.path (works_on x (m ∷ ms))
    here x is =
        subst (λ (d : Deed). TakesTurn m.path (cons_option (work_on x d m.path m.children) (works_on x ms))) (sym is)
        (subst (λ (b : Bool). TakesTurn m.path (cons_option (if b then Some (Turned m.path) else None) (works_on x ms))) (sym (eq-eqb x x refl)) (inl refl))

module _ (keeps : (p : AbstractProgram) (ns : List ℤ) (limit : ℕ) → Proper (root_spec p) (root_course p ns limit)) (p : AbstractProgram) (ns : List ℤ) (limit : ℕ)
    (turns : ℕ → List Path) where
  abbrev all : List Mark
  all = marks_by p ns limit turns

  abbrev N : Path → Type 0
  N q = TakesNone q all

  whole : (o : ℕ) → Sorted N (items_on N o all)
  whole o =
      let w : World = record { store = zeros (sizes p.items); waiting = [] } in
      let r = run turns (0 ∷ []) (root_spec p) (root_course p ns limit) 0 0 w in
      let rest = settle_all turns (objects (root_spec p)) r.world in
      let bar = barred all [] all refl in
      let start : State N o [] [] (key (0 ∷ []) 0) = record { sorted = tt; low = tt; ready = tt } in
      let s = run_keeps N o turns (keeps p ns limit) (0 ∷ []) 0 0 w [] (1 ∷ []) (λ j. refl) (every_front (Barred N) r.marks rest.marks bar) start in
      let e = all_settle N o turns (objects (root_spec p)) (items_on N o r.marks) r.world (1 ∷ []) (every_back (Barred N) r.marks rest.marks bar) s in
      subst (Sorted N) (sym (items_both N o r.marks rest.marks)) e.sorted

  at : (front back : List Mark) (m : Mark) (o c : ℕ) (v : ℤ) → all ≡ front ++ (m ∷ back) → m.deed ≡ DidRead o c v
      → Every (λ (y : Item). Stands N y (read m.path (key m.path m.children))) (items_on N o front) × Every (Stands N (read m.path (key m.path m.children))) (items_on N o back)
  at front back m o c v e is =
      let here : items_on N o (m ∷ back) ≡ read m.path (key m.path m.children) ∷ items_on N o back = ap (λ (d : Deed). cons_option (item_on N o d m.path m.children) (items_on N o back)) is
      ∙ ap (λ (b : Bool). cons_option (if b then Some (read m.path (key m.path m.children)) else None) (items_on N o back)) (eq-eqb o o refl) in
      sorted_at N o (items_on N o front) (items_on N o back) (read m.path (key m.path m.children))
      (subst (Sorted N) (ap (items_on N o) e ∙ items_both N o front (m ∷ back) ∙ ap (λ (z : List Item). items_on N o front ++ z) here) (whole o))

  pub reads_stand_by_key : ReadsStandByKey p ns limit turns
  reads_stand_by_key = record {
    earlier = λ front back m o c v e is n.
        every_by (λ (w : Work). Stands N (work (key_of_work w)) (read m.path (key m.path m.children))) (λ (w : Work). is_before (key m.path m.children) (key_of_work w) ≡ false)
        (λ w k. k n) (works_on o front) (works_among N o (λ (y : Item). Stands N y (read m.path (key m.path m.children))) front (at front back m o c v e is).0);
    later = λ front back m o c v e is n.
        every_by (λ (w : Work). Stands N (read m.path (key m.path m.children)) (work (key_of_work w))) (λ (w : Work). is_before (key_of_work w) (key m.path m.children) ≡ false)
        (λ w k. k n) (works_on o back) (works_among N o (Stands N (read m.path (key m.path m.children))) back (at front back m o c v e is).1);
  }
