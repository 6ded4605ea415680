-- The works on an object stand in the serial order of their parts, but those of tasks that commute on it: one induction over a run.
use Rattle.std.proofs.Common.{◌≡◌, ◌≢◌, ℕ, zero, suc, ◌<◌, Bool, true, false, List, [], ◌∷◌, ◌++◌, Option, Some, None, refl, sym, ap, ◌∙◌, subst, arith, append-nil, append_assoc, le_refl, lt-suc_self, ◌⊎◌, inl, inr}
use Rattle.std.specs.Prelude.{ℤ, nat_eq, slice_get, if◌then◌else◌}
use Rattle.std.specs.List.{cons_option}
use Rattle.std.proofs.lemmas.Bool.Decides.{eqb_tells}
use Rattle.std.proofs.lemmas.Bool.{eq-eqb}
use Rattle.std.proofs.lemmas.List.Elements.{filter_map-append}
use Rattle.jade_base.specs.Places.{is_before, key}
use Rattle.jade_syntax.specs.Abstract.{AbstractProgram}
use Rattle.jade_syntax.specs.Objects.{sizes}
use Rattle.jade_meaning.specs.Course.{Course, root_spec, root_course}
use Rattle.jade_meaning.specs.Laws.{Every}
use Rattle.jade_meaning.specs.Proper.{Proper, proper_read, proper_write, proper_step, proper_create, proper_change, proper_end}
use Rattle.jade_meaning.specs.Serial.{Path, Store, Mark, Deed, DidTurn, DidRead, DidWrite, DidCreate, DidEnd, after, cell, with_cell, zeros}
use Rattle.jade_meaning.specs.Specification.{Specification, rights_on, objects, commuting_on, allows_commuting}
use Rattle.jade_meaning.specs.Turns.{Member, World, at_path, bared, group, others, arranged, turn, turns_taken, settle, settled, settle_all, entered, run, touched_at_once, made_touchable, marks_by, seen_by, kept_from}
use Rattle.jade_meaning.proofs.Filling.{others_not}
use Rattle.schedule_core.specs.Works.{Work, Wrote, Turned, work_on, works_on}
use Rattle.schedule_core.proofs.Ascending.{asym, through}
use Rattle.schedule_core.proofs.Behind.{flat_children}
use Rattle.schedule_core.proofs.Groups.{Spares, Leaves, Sole, Elsewhere, taken_leaves, every_append, every_arranged, every_group, every_others, group_of}
use Rattle.schedule_core.proofs.Keys.{own_before, part_before, yes_before, NotFrom}
use Rattle.schedule_core.specs.Sound.{From}
use Rattle.schedule_core.proofs.Order.{child_first}
use Rattle.schedule_core.proofs.Running.{every_by, every_two}
use Rattle.schedule_core.proofs.Soles.{proper_sole, bared_proper}
use Rattle.core_laws.specs.KeyOrder.{task_of_work, key_of_work, TakesTurn, MayPrecede, WorksStandByKey}

-- nothing stands before itself, and what is no later than a key is no later than a later one
pub not_itself : (c : Path) → is_before c c ≡ false
not_itself c = go (is_before c c) refl
  where
    go : (b : Bool) → is_before c c ≡ b → b ≡ false
    go true e = sym e ∙ asym c c e
    go false e = refl

pub no_later : (c d z : Path) → is_before c d ≡ true → is_before c z ≡ false → is_before d z ≡ false
no_later c d z lt le = go (is_before d z) refl
  where
    go : (b : Bool) → is_before d z ≡ b → is_before d z ≡ false
    go true e = absurd (let x : true ≡ false = sym (through c d z lt (asym d z e)) ∙ le in cc)
    go false e = e

-- works of one more list of marks
pub works_both : (o : ℕ) (a b : List Mark) → works_on o (a ++ b) ≡ works_on o a ++ works_on o b
works_both o a b = filter_map-append (λ (m : Mark). work_on o m.deed m.path m.children) a b

glue : (o : ℕ) (ws : List Work) (a b : List Mark) → (ws ++ works_on o a) ++ works_on o b ≡ ws ++ works_on o (a ++ b)
glue o ws a b = append_assoc ws (works_on o a) (works_on o b) ∙ ap (λ (z : List Work). ws ++ z) (sym (works_both o a b))

-- marks that spare an object have no work on it
no_works : (o : ℕ) (ms : List Mark) → Leaves o ms → works_on o ms ≡ []
no_works o [] h = refl
no_works o (m ∷ ms) h = ap (λ (ws : List Work). cons_option (work_on o m.deed m.path m.children) ws) (no_works o ms h.1) ∙ one m.deed h.0
  where
    one : (d : Deed) → Spares o d → cons_option (work_on o d m.path m.children) [] ≡ []
    one (DidWrite x c v) e = go (eqb_tells x o)
      where
        go : ((nat_eq x o ≡ true) × (x ≡ o)) ⊎ ((nat_eq x o ≡ false) × (x ≢ o))
            → cons_option (if nat_eq x o then Some (Wrote m.path m.children c v) else None) [] ≡ []
        go (inl q) = absurd (e q.1)
        go (inr q) = ap (λ (b : Bool). cons_option (if b then Some (Wrote m.path m.children c v) else None) []) q.0
    one (DidTurn x) e = go (eqb_tells x o)
      where
        go : ((nat_eq x o ≡ true) × (x ≡ o)) ⊎ ((nat_eq x o ≡ false) × (x ≢ o)) → cons_option (if nat_eq x o then Some (Turned m.path) else None) [] ≡ []
        go (inl q) = absurd (e q.1)
        go (inr q) = ap (λ (b : Bool). cons_option (if b then Some (Turned m.path) else None) []) q.0
    one (DidRead x c v) e = refl
    one (DidCreate x n) e = refl
    one (DidEnd x n) e = refl

-- a member's turn works on its own object alone, in the task's first part
abbrev pub Simple : Member → Type 0
Simple q = Sole q × ((s : Store) → Every (λ (m : Mark). (m.path ≡ q.path) × (m.children ≡ 0)) (turn q s))

-- works of the first part of a task
abbrev IsOf : Path → Work → Type 0
IsOf p w = (key_of_work w ≡ key p 0) × (task_of_work w ≡ p)

own_works : (o : ℕ) (p : Path) (ms : List Mark) → Every (λ (m : Mark). (m.path ≡ p) × (m.children ≡ 0)) ms → Every (IsOf p) (works_on o ms)
own_works o p [] h = tt
own_works o p (m ∷ ms) h = one m.deed (own_works o p ms h.1)
  where
    one : (d : Deed) → Every (IsOf p) (works_on o ms) → Every (IsOf p) (cons_option (work_on o d m.path m.children) (works_on o ms))
    one (DidWrite x c v) r = go (nat_eq x o)
      where
        go : (b : Bool) → Every (IsOf p) (cons_option (if b then Some (Wrote m.path m.children c v) else None) (works_on o ms))
        go true = ((ap (λ z. key z m.children) h.0.0 ∙ ap (key p) h.0.1, h.0.0), r)
        go false = r
    one (DidTurn x) r = go (nat_eq x o)
      where
        go : (b : Bool) → Every (IsOf p) (cons_option (if b then Some (Turned m.path) else None) (works_on o ms))
        go true = ((ap (λ z. key z 0) h.0.0, h.0.0), r)
        go false = r
    one (DidRead x c v) r = r
    one (DidCreate x n) r = r
    one (DidEnd x n) r = r

-- a turn is among its works
turn_there : (o : ℕ) (q : Member) (s : Store) → q.object ≡ o → TakesTurn q.path (works_on o (turn q s))
turn_there o q s e =
    let rest = drop_one (turn q s) in
    subst (λ (b : Bool). TakesTurn q.path (cons_option (if b then Some (Turned q.path) else None) (works_on o rest))) (sym (eq-eqb q.object o e)) (inl refl)
  where
    drop_one : List Mark → List Mark
    drop_one [] = []
    drop_one (m ∷ ms) = ms

turn_first : (q : Path) (a b : List Work) → TakesTurn q a → TakesTurn q (a ++ b)
turn_first q [] b h = absurd h
turn_first q (w ∷ a) b (inl e) = inl e
turn_first q (w ∷ a) b (inr h) = inr (turn_first q a b h)

pub turn_last : (q : Path) (a b : List Work) → TakesTurn q b → TakesTurn q (a ++ b)
turn_last q [] b h = h
turn_last q (w ∷ a) b h = inr (turn_last q a b h)

-- works in order, among all
abbrev Sorted : List Work → List Work → Type 0
Sorted all [] = Unit {0}
Sorted all (w ∷ ws) = Every (MayPrecede all w) ws × Sorted all ws

precede_more : (all new : List Work) (w x : Work) → MayPrecede all w x → MayPrecede (all ++ new) w x
precede_more all new w x (inl e) = inl e
precede_more all new w x (inr h) = inr (turn_first (task_of_work w) all new h.0, turn_first (task_of_work x) all new h.1)

sorted_more : (all new ws : List Work) → Sorted all ws → Sorted (all ++ new) ws
sorted_more all new [] h = tt
sorted_more all new (w ∷ ws) h =
    (every_by (MayPrecede all w) (MayPrecede (all ++ new) w) (λ x e. precede_more all new w x e) ws h.0, sorted_more all new ws h.1)

sorted_both : (all a b : List Work) → Sorted all a → Sorted all b → Every (λ (w : Work). Every (MayPrecede all w) b) a → Sorted all (a ++ b)
sorted_both all [] b h g k = g
sorted_both all (w ∷ a) b h g k = (every_append (MayPrecede all w) a b h.0 k.0, sorted_both all a b h.1 g k.1)

-- what a child does has its key before what its parent does next
pub child_ends : (p : Path) (k j : ℕ) → is_before (key (p ++ k ∷ []) j) (key p (suc k)) ≡ true
child_ends p k j = yes_before (p ++ k ∷ []) p j (suc k) (child_first p k) away
  where
    tail : (p q : Path) → p ++ k ∷ [] ≡ p ++ q → k ∷ [] ≡ q
    tail [] q e = e
    tail (i ∷ p) q e = tail p q (cc)

    first : (q : Path) → k ∷ [] ≡ q → From (suc k) q → ⊥
    first [] e f = absurd (cc)
    first (i ∷ q) e f = let h : k ≡ i = cc in omega (arith, f, h)

    away : NotFrom p (suc k) (p ++ k ∷ [])
    away q e f = first q (tail p q e) f

-- a work that the first part of a task at a path may follow
abbrev Yields : Path → List Work → Work → Type 0
Yields p all w = (is_before (key p 0) (key_of_work w) ≡ false) ⊎ TakesTurn (task_of_work w) all

module _ (o : ℕ) where
  -- a task that waits and may take its turn after some works, none of which is later than a key
  record Ready (ws : List Work) (c : Path) (q : Member) : Type 0 where
    ok : Simple q
    early : is_before c (key q.path 0) ≡ false
    pending : q.object ≡ o → Every (Yields q.path ws) ws

  record State (ws : List Work) (ms : List Member) (c : Path) : Type 0 where
    sorted : Sorted ws ws
    low : Every (λ (w : Work). is_before c (key_of_work w) ≡ false) ws
    ready : Every (Ready ws c) ms

  later : (ws : List Work) (ms : List Member) (c d : Path) → is_before c d ≡ true → State ws ms c → State ws ms d
  later ws ms c d lt s = record {
    sorted = s.sorted;
    low = every_by (λ (w : Work). is_before c (key_of_work w) ≡ false) (λ (w : Work). is_before d (key_of_work w) ≡ false)
        (λ w e. no_later c d (key_of_work w) lt e) ws s.low;
    ready = every_by (Ready ws c) (Ready ws d) (λ q r. record { ok = r.ok; early = no_later c d (key q.path 0) lt r.early; pending = r.pending }) ms s.ready;
  }

  -- works of a task that takes its turn
  module _ (ws new : List Work) (c : Path) (q : Member) (r : Ready ws c q) (is : q.object ≡ o) (own : Every (IsOf q.path) new) (there : TakesTurn q.path new) where
    among : TakesTurn q.path (ws ++ new)
    among = turn_last q.path ws new there

    all_turn : Every (λ (w : Work). TakesTurn (task_of_work w) (ws ++ new)) new
    all_turn = every_by (IsOf q.path) (λ (w : Work). TakesTurn (task_of_work w) (ws ++ new)) (λ w e. subst (λ (z : Path). TakesTurn z (ws ++ new)) (sym e.1) among) new own

    ready_more : (m : Member) → Ready ws c m → Ready (ws ++ new) c m
    ready_more m h = record {
      ok = h.ok;
      early = h.early;
      pending = λ e. every_append (Yields m.path (ws ++ new)) ws new (every_by (Yields m.path ws) (Yields m.path (ws ++ new)) kept ws (h.pending e))
          (every_by (λ (w : Work). TakesTurn (task_of_work w) (ws ++ new)) (Yields m.path (ws ++ new)) (λ w k. inr k) new all_turn);
    }
      where
        kept : (w : Work) → Yields m.path ws w → Yields m.path (ws ++ new) w
        kept w (inl e) = inl e
        kept w (inr k) = inr (turn_first (task_of_work w) ws new k)

    new_sorted : (xs : List Work) → Every (λ (w : Work). TakesTurn (task_of_work w) (ws ++ new)) xs → Sorted (ws ++ new) xs
    new_sorted [] h = tt
    new_sorted (w ∷ xs) h =
        (every_by (λ (x : Work). TakesTurn (task_of_work x) (ws ++ new)) (MayPrecede (ws ++ new) w) (λ x k. inr (h.0, k)) xs h.1, new_sorted xs h.1)

    follows : (w : Work) → Yields q.path ws w → Every (MayPrecede (ws ++ new) w) new
    follows w (inl e) =
        every_by (IsOf q.path) (MayPrecede (ws ++ new) w) (λ x k. inl (subst (λ (z : Path). is_before z (key_of_work w) ≡ false) (sym k.0) e)) new own
    follows w (inr h) =
        every_by (λ (x : Work). TakesTurn (task_of_work x) (ws ++ new)) (MayPrecede (ws ++ new) w) (λ x k. inr (turn_first (task_of_work w) ws new h, k)) new all_turn

    taken : (ms : List Member) → State ws ms c → State (ws ++ new) ms c
    taken ms s = record {
      sorted = sorted_both (ws ++ new) ws new (sorted_more ws new ws s.sorted) (new_sorted new all_turn)
          (every_by (Yields q.path ws) (λ (w : Work). Every (MayPrecede (ws ++ new) w) new) follows ws (r.pending is));
      low = every_append (λ (w : Work). is_before c (key_of_work w) ≡ false) ws new s.low
          (every_by (IsOf q.path) (λ (w : Work). is_before c (key_of_work w) ≡ false) (λ w k. ap (is_before c) k.0 ∙ r.early) new own);
      ready = every_by (Ready ws c) (Ready (ws ++ new) c) ready_more ms s.ready;
    }

  all_taken : (qs : List Member) (s : Store) (ws : List Work) (ms : List Member) (c : Path) → State ws ms c
      → Every (λ (q : Member). Ready ws c q × (q.object ≡ o)) qs → State (ws ++ works_on o (turns_taken qs s)) ms c
  all_taken [] s ws ms c h g = subst (λ (x : List Work). State x ms c) (sym (append-nil ws)) h
  all_taken (q ∷ qs) s ws ms c h g =
      let d = turn q s in
      let own = own_works o q.path d (g.0.0.ok.1 s) in
      let there = turn_there o q s g.0.1 in
      let new = works_on o d in
      let one = taken ws new c q g.0.0 g.0.1 own there ms h in
      let rest = every_by (λ (m : Member). Ready ws c m × (m.object ≡ o)) (λ (m : Member). Ready (ws ++ new) c m × (m.object ≡ o))
      (λ m k. (ready_more ws new c q g.0.0 g.0.1 own there m k.0, k.1)) qs g.1 in
      subst (λ (x : List Work). State x ms c) (glue o ws d (turns_taken qs (after d s))) (all_taken qs (after d s) (ws ++ new) ms c one rest)

  module _ (t : ℕ → List Path) where
    settle_keeps : (x : ℕ) (ws : List Work) (w : World) (c : Path) → State ws w.waiting c → State (ws ++ works_on o (settle t x w)) (settled t x w).waiting c
    settle_keeps x ws w c h = go (eqb_tells x o)
      where
        fewer : (vs : List Work) → State vs w.waiting c → State vs (others x w.waiting) c
        fewer vs s = record { sorted = s.sorted; low = s.low; ready = every_others (Ready vs c) x w.waiting s.ready }

        go : ((nat_eq x o ≡ true) × (x ≡ o)) ⊎ ((nat_eq x o ≡ false) × (x ≢ o)) → State (ws ++ works_on o (settle t x w)) (others x w.waiting) c
        go (inl e) =
            let each = every_arranged (λ (q : Member). Ready ws c q × (q.object ≡ o)) (t x) (group x w.waiting)
            (every_two (Ready ws c) (λ (q : Member). q.object ≡ o) (group x w.waiting) (every_group (Ready ws c) x w.waiting h.ready)
            (every_by (λ (q : Member). q.object ≡ x) (λ (q : Member). q.object ≡ o) (λ q k. k ∙ e.1) (group x w.waiting) (group_of x w.waiting))) in
            fewer _ (all_taken (arranged (t x) (group x w.waiting)) w.store ws w.waiting c h each)
        go (inr e) =
            let each = every_arranged (Elsewhere o) (t x) (group x w.waiting)
            (every_two (λ (q : Member). q.object ≢ o) Sole (group x w.waiting)
            (every_by (λ (q : Member). q.object ≡ x) (λ (q : Member). q.object ≢ o) (λ q k i. e.1 (sym k ∙ i)) (group x w.waiting) (group_of x w.waiting))
            (every_by (Ready ws c) Sole (λ q k. k.ok.0) (group x w.waiting) (every_group (Ready ws c) x w.waiting h.ready))) in
            let none = no_works o (settle t x w) (taken_leaves o (arranged (t x) (group x w.waiting)) w.store each) in
            fewer _ (subst (λ (z : List Work). State z w.waiting c) (sym (append-nil ws) ∙ ap (λ (z : List Work). ws ++ z) (sym none)) h)

    all_settle : (os : List ℕ) (ws : List Work) (w : World) (c : Path) → State ws w.waiting c
        → State (ws ++ works_on o (settle_all t os w).marks) (settle_all t os w).world.waiting c
    all_settle [] ws w c h = subst (λ (z : List Work). State z w.waiting c) (sym (append-nil ws)) h
    all_settle (x ∷ os) ws w c h =
        let r = all_settle os (ws ++ works_on o (settle t x w)) (settled t x w) c (settle_keeps x ws w c h) in
        subst (λ (z : List Work). State z (settle_all t os (settled t x w)).world.waiting c) (glue o ws (settle t x w) (settle_all t os (settled t x w)).marks) r

    -- a write of a task that does not commute comes when nobody waits for its object
    wrote : (ws : List Work) (ms : List Member) (p : Path) (k x : ℕ) (v : ℤ) → Every (λ (q : Member). q.object ≢ o) ms → State ws ms (key p k)
        → State (ws ++ Wrote p k x v ∷ []) ms (key p k)
    wrote ws ms p k x v none s =
        let new = Wrote p k x v ∷ [] in
        record {
          sorted = sorted_both (ws ++ new) ws new (sorted_more ws new ws s.sorted) (tt, tt)
              (every_by (λ (w : Work). is_before (key p k) (key_of_work w) ≡ false) (λ (w : Work). Every (MayPrecede (ws ++ new) w) new) (λ w e. (inl e, tt)) ws s.low);
          low = every_append (λ (w : Work). is_before (key p k) (key_of_work w) ≡ false) ws new s.low (not_itself (key p k), tt);
          ready = every_by (λ (q : Member). Ready ws (key p k) q × (q.object ≢ o)) (Ready (ws ++ new) (key p k))
              (λ q h. record { ok = h.0.ok; early = h.0.early; pending = λ e. absurd (h.1 e) }) ms
              (every_two (Ready ws (key p k)) (λ (q : Member). q.object ≢ o) ms s.ready none);
        }

    -- a task that commutes waits
    joins : (ws : List Work) (ms : List Member) (q : Member) (c d : Path) → Simple q → is_before c (key q.path 0) ≡ true → is_before (key q.path 0) d ≡ true
        → State ws ms c → State ws ms d → State ws (ms ++ q ∷ []) d
    joins ws ms q c d ok lt le s r = record {
      sorted = r.sorted;
      low = r.low;
      ready = every_append (Ready ws d) ms (q ∷ []) r.ready (
        record {
          ok = ok;
          early = asym (key q.path 0) d le;
          pending = λ e. every_by (λ (w : Work). is_before c (key_of_work w) ≡ false) (Yields q.path ws) (λ w i. inl (no_later c (key q.path 0) (key_of_work w) lt i)) ws s.low;
        },
        tt,
      );
    }

    no_work_last : (ms : List Mark) (m : Mark) → work_on o m.deed m.path m.children ≡ None → works_on o (ms ++ m ∷ []) ≡ works_on o ms
    no_work_last ms m e =
        works_both o ms (m ∷ []) ∙ ap (λ (z : Option Work). works_on o ms ++ cons_option z []) e ∙ append-nil (works_on o ms)

    run_keeps : {spec : Specification} {c : Course} → Proper spec c → (p : Path) (k n : ℕ) (w : World) (ws : List Work) (top : Path)
        → ((j : ℕ) → is_before (key p j) top ≡ true) → State ws w.waiting (key p k)
        → State (ws ++ works_on o (run t p spec c k n w).marks) (run t p spec c k n w).world.waiting top
    run_keeps {spec} (proper_read {o = x} {c = c} {on = on} i f) p k n w ws top ends h =
        let y = settled t x w in
        let v = cell y.store x c in
        let m = at_path p k (DidRead x c v) in
        let rest = run t p spec (on v) k n y in
        let s = subst (λ (z : List Work). State (ws ++ z) y.waiting (key p k)) (sym (no_work_last (settle t x w) m refl)) (settle_keeps x ws w (key p k) h) in
        subst (λ (z : List Work). State z rest.world.waiting top) (glue o ws (settle t x w ++ m ∷ []) rest.marks)
        (run_keeps (f v) p k n y (ws ++ works_on o (settle t x w ++ m ∷ [])) top ends s)
    run_keeps {spec} (proper_write {o = x} {c = c} {v = v} {on = on} i f) p k n w ws top ends h =
        let y = settled t x w in
        let m = at_path p k (DidWrite x c v) in
        let after_it : World = record { store = with_cell y.store x c v; waiting = y.waiting } in
        let rest = run t p spec on k n after_it in
        subst (λ (z : List Work). State z rest.world.waiting top) (glue o ws (settle t x w ++ m ∷ []) rest.marks)
        (run_keeps f p k n after_it (ws ++ works_on o (settle t x w ++ m ∷ [])) top ends (go (eqb_tells x o)))
      where
        settled_so : State (ws ++ works_on o (settle t x w)) (others x w.waiting) (key p k)
        settled_so = settle_keeps x ws w (key p k) h

        go : ((nat_eq x o ≡ true) × (x ≡ o)) ⊎ ((nat_eq x o ≡ false) × (x ≢ o))
            → State (ws ++ works_on o (settle t x w ++ at_path p k (DidWrite x c v) ∷ [])) (others x w.waiting) (key p k)
        go (inl e) =
            let none = every_by (λ (q : Member). q.object ≢ x) (λ (q : Member). q.object ≢ o) (λ q k i. k (i ∙ sym e.1)) (others x w.waiting) (others_not x w.waiting) in
            subst (λ (z : List Work). State z (others x w.waiting) (key p k))
            (append_assoc ws (works_on o (settle t x w)) (Wrote p k c v ∷ [])
            ∙ ap (λ (b : Bool). ws ++ (works_on o (settle t x w) ++ cons_option (if b then Some (Wrote p k c v) else None) [])) (sym e.0)
            ∙ ap (λ (z : List Work). ws ++ z) (sym (works_both o (settle t x w) (at_path p k (DidWrite x c v) ∷ []))))
            (wrote (ws ++ works_on o (settle t x w)) (others x w.waiting) p k c v none settled_so)
        go (inr e) =
            subst (λ (z : List Work). State (ws ++ z) (others x w.waiting) (key p k))
            (sym (no_work_last (settle t x w) (at_path p k (DidWrite x c v)) (ap (λ (b : Bool). if b then Some (Wrote p k c v) else None) e.0))) settled_so
    run_keeps {spec} (proper_step {on = on} f) p k n w ws top ends h = run_keeps f p k (suc n) w ws top ends h
    run_keeps {spec} (proper_create {child = child} {body = body} {on = on} none may cov size b f) p k n w ws top ends h =
        let q = p ++ k ∷ [] in
        let s = settle_all t (touched_at_once child) w in
        let inner = entered (commuting_on child) q child body (λ x. run t q child body 0 0 x) s.world in
        let rest = run t p spec on (suc k) 0 inner.world in
        let vs = ws ++ works_on o s.marks in
        let here = all_settle (touched_at_once child) ws w (key p k) h in
        let there = go (commuting_on child) refl here (λ z. run_keeps b q 0 0 s.world vs (key p (suc k)) (λ j. child_ends p k j) z) in
        subst (λ (z : List Work). State z rest.world.waiting top) (glue o ws (s.marks ++ inner.marks) rest.marks)
        (run_keeps f p (suc k) 0 inner.world (ws ++ works_on o (s.marks ++ inner.marks)) top ends
        (subst (λ (z : List Work). State z inner.world.waiting (key p (suc k))) (glue o ws s.marks inner.marks) there))
      where
        go : (x : Option ℕ) → commuting_on child ≡ x
            → State (ws ++ works_on o (settle_all t (touched_at_once child) w).marks) (settle_all t (touched_at_once child) w).world.waiting (key p k)
            → (State (ws ++ works_on o (settle_all t (touched_at_once child) w).marks) (settle_all t (touched_at_once child) w).world.waiting (key (p ++ k ∷ []) 0)
            → State ((ws ++ works_on o (settle_all t (touched_at_once child) w).marks)
            ++ works_on o (run t (p ++ k ∷ []) child body 0 0 (settle_all t (touched_at_once child) w).world).marks)
            (run t (p ++ k ∷ []) child body 0 0 (settle_all t (touched_at_once child) w).world).world.waiting (key p (suc k)))
            → State ((ws ++ works_on o (settle_all t (touched_at_once child) w).marks)
            ++ works_on o (entered x (p ++ k ∷ []) child body (λ z. run t (p ++ k ∷ []) child body 0 0 z) (settle_all t (touched_at_once child) w).world).marks)
            (entered x (p ++ k ∷ []) child body (λ z. run t (p ++ k ∷ []) child body 0 0 z) (settle_all t (touched_at_once child) w).world).world.waiting (key p (suc k))
        go None e z r = r (later _ _ (key p k) (key (p ++ k ∷ []) 0) (part_before p k k (le_refl k)) z)
        go (Some y) e z r =
            let vs = ws ++ works_on o (settle_all t (touched_at_once child) w).marks in
            let before = (settle_all t (touched_at_once child) w).world in
            let m : Member = record {
              path = p ++ k ∷ [];
              object = y;
              course = (bared body 0).course;
              steps = (bared body 0).steps;
              kept = kept_from 0 (rights_on child) before.store;
            } in
            let simple : Simple m = (
              proper_sole m (bared_proper b 0) e (subst (λ (x : Option ℕ). allows_commuting x child ≡ true) e may),
              λ st. ((refl, refl), flat_children (bared_proper b 0) y e (p ++ k ∷ []) 0 (bared body 0).steps (seen_by m st)),
            ) in
            subst (λ (u : List Work). State u (before.waiting ++ m ∷ []) (key p (suc k))) (sym (append-nil vs))
            (joins vs before.waiting m (key p k) (key p (suc k)) simple (part_before p k k (le_refl k)) (child_ends p k 0) z
            (later vs before.waiting (key p k) (key p (suc k)) (own_before p k (suc k) (lt-suc_self k)) z))
    run_keeps {spec} (proper_change {new = new} {on = on} none m f) p k n w ws top ends h =
        let s = settle_all t (made_touchable spec new) w in
        let rest = run t p new on k n s.world in
        subst (λ (z : List Work). State z rest.world.waiting top) (glue o ws s.marks rest.marks)
        (run_keeps f p k n s.world (ws ++ works_on o s.marks) top ends (all_settle (made_touchable spec new) ws w (key p k) h))
    run_keeps {spec} (proper_end {b = b}) p k n w ws top ends h =
        subst (λ (z : List Work). State z w.waiting top) (sym (append-nil ws)) (later ws w.waiting (key p k) top (ends k) h)

sorted_at : (all ws : List Work) → Sorted all ws → (i j : ℕ) (w x : Work) → slice_get ws i ≡ Some w → slice_get ws j ≡ Some x → i < j → MayPrecede all w x
sorted_at all [] h i j w x e f lt = absurd (cc)
sorted_at all (v ∷ ws) h zero zero w x e f lt = absurd (omega (arith, lt))
sorted_at all (v ∷ ws) h (suc i) zero w x e f lt = absurd (omega (arith, lt))
sorted_at all (v ∷ ws) h (suc i) (suc j) w x e f lt = sorted_at all ws h.1 i j w x e f (omega (arith, lt))
sorted_at all (v ∷ ws) h zero (suc j) w x e f lt = subst (λ (z : Work). MayPrecede all z x) (some_is v w e) (at_place (MayPrecede all v) ws j x f h.0)
  where
    some_is : (a b : Work) → ◌≡◌ {A = Option Work} (Some a) (Some b) → a ≡ b
    some_is a b e = cc

    at_place : (P : Work → Type 0) (ws : List Work) (i : ℕ) (x : Work) → slice_get ws i ≡ Some x → Every P ws → P x
    at_place P [] i x e h = absurd (cc)
    at_place P (y ∷ ws) zero x e h = subst P (some_is y x e) h.0
    at_place P (y ∷ ws) (suc i) x e h = at_place P ws i x e h.1

pub works_stand_by_key : (keeps : (p : AbstractProgram) (ns : List ℤ) (limit : ℕ) → Proper (root_spec p) (root_course p ns limit)) (p : AbstractProgram)
    (ns : List ℤ) (limit : ℕ) (turns : ℕ → List Path) → WorksStandByKey p ns limit turns
works_stand_by_key keeps p ns limit turns = record { order = λ o. sorted_at (works_on o (marks_by p ns limit turns)) (works_on o (marks_by p ns limit turns)) (whole o) }
  where
    whole : (o : ℕ) → Sorted (works_on o (marks_by p ns limit turns)) (works_on o (marks_by p ns limit turns))
    whole o =
        let w : World = record { store = zeros (sizes p.items); waiting = [] } in
        let r = run turns (0 ∷ []) (root_spec p) (root_course p ns limit) 0 0 w in
        let start : State o [] [] (key (0 ∷ []) 0) = record { sorted = tt; low = tt; ready = tt } in
        let s = run_keeps o turns (keeps p ns limit) (0 ∷ []) 0 0 w [] (1 ∷ []) (λ j. refl) start in
        let e = all_settle o turns (objects (root_spec p)) (works_on o r.marks) r.world (1 ∷ []) s in
        let both = sym (works_both o r.marks (settle_all turns (objects (root_spec p)) r.world).marks) in
        subst (λ (ws : List Work). Sorted ws ws) both e.sorted
