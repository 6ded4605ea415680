-- A run does not depend on the content of an object on which its task has no rights.
use Rattle.std.proofs.Common.{◌≡◌, ◌≢◌, ℕ, suc, ◌+◌, true, false, ◌||◌, List, [], ◌∷◌, ◌++◌, refl, sym, ap, ◌∙◌, subst, Option, Some, None, arith, append_assoc, get_or-set_other}
use Rattle.std.specs.Prelude.{ℤ, pos, slice_set, slice_index_or}
use Rattle.jade_base.specs.declared.rights.Right.{Right}
use Rattle.jade_base.specs.declared.rights.Rights.{Rights}
use Rattle.jade_meaning.specs.Specification.{Specification, rights_on, objects, commuting_on, allows_commuting}
use Rattle.jade_base.specs.Rights.{is_immediate, is_there}
use Rattle.jade_meaning.specs.Course.{Course, Creates}
use Rattle.jade_base.specs.Rights.{may_read, may_write}
use Rattle.jade_meaning.specs.Talk.{made_immediate}
use Rattle.jade_meaning.specs.Serial.{Mark, Path, Store, DidRead, DidWrite, DidCreate, after, cell, with_cell}
use Rattle.jade_meaning.specs.Turns.{Member, World, Ran, at_path, bared, group, others, arranged, turns_taken, settle, settled, settle_all, first, entered, joined, run, touched_at_once, made_touchable}
use Rattle.jade_meaning.specs.Proper.{Proper, proper_read, proper_write, proper_step, proper_create, proper_change, proper_end}
use Rattle.jade_meaning.specs.Laws.{Every}
use Rattle.schedule_core.proofs.Groups.{every_append, every_arranged, every_group, every_others, group_of, Leaves, Sole, after_set, taken_same, taken_leaves}
use Rattle.schedule_core.proofs.Groups as groups
use Rattle.schedule_core.proofs.Splits.{covers_each, no_writes, no_commutes}
use Rattle.schedule_core.proofs.Soles.{proper_sole, bared_proper}
use Rattle.schedule_core.proofs.Ahead.{kept_set}
use Rattle.schedule_core.proofs.Running.{every_by, every_two, every_chosen}
use Rattle.schedule_core.proofs.Idle.{Elsewhere, no_reads, no_touch, less_false, not_at, false_true, touch_there}

module _ (t : ℕ → List Path) (o : ℕ) (ys : List ℤ) where
  abbrev pub set_world : World → World
  set_world w = record { store = slice_set w.store o ys; waiting = w.waiting }

  abbrev pub set_ran : Ran → Ran
  set_ran r = record { marks = r.marks; world = set_world r.world }

  pub record Blind (r1 r2 : Ran) : Type 0 where
    pub same : r1 ≡ set_ran r2
    pub soles : Every Sole r2.world.waiting

  pub then_blind : (r1 r2 : Ran) (k1 k2 : World → Ran) → Blind r1 r2 → ((w : World) → Every Sole w.waiting → Blind (k1 (set_world w)) (k2 w)) → Blind (first r1.marks (k1 r1.world)) (first r2.marks (k2 r2.world))
  then_blind r1 r2 k1 k2 h g =
      let next = g r2.world h.soles in
      record { same = ap (λ (r : Ran). first r.marks (k1 r.world)) h.same ∙ ap (first r2.marks) next.same; soles = next.soles }

  pub first_blind : (ms : List Mark) (r1 r2 : Ran) → Blind r1 r2 → Blind (first ms r1) (first ms r2)
  first_blind ms r1 r2 h = record { same = ap (first ms) h.same; soles = h.soles }

  abbrev pub ran_at : ℕ → World → Ran
  ran_at x w = record { marks = settle t x w; world = settled t x w }

  pub settle_blind : (x : ℕ) (w : World) → x ≢ o → Every Sole w.waiting → Blind (ran_at x (set_world w)) (ran_at x w)
  settle_blind x w ne h = record {
    same = ap (λ ms. record { marks = ms; world = record { store = after ms (slice_set w.store o ys); waiting = others x w.waiting } }) same ∙ ap (λ s. record { marks = turns_taken l w.store; world = record { store = s; waiting = others x w.waiting } }) (after_set o ys (turns_taken l w.store) w.store (taken_leaves o l w.store all));
    soles = every_others Sole x w.waiting h;
  }
    where
      l : List Member
      l = arranged (t x) (group x w.waiting)

      all : Every (groups.Elsewhere o) l
      all =
          every_arranged (groups.Elsewhere o) (t x) (group x w.waiting) (every_by (λ q. (q.object ≡ x) × Sole q) (groups.Elsewhere o) (λ q i. ((λ j. ne (sym i.0 ∙ j)), i.1)) (group x w.waiting) (every_two (λ q. q.object ≡ x) Sole (group x w.waiting) (group_of x w.waiting) (every_group Sole x w.waiting h)))

      same : turns_taken l (slice_set w.store o ys) ≡ turns_taken l w.store
      same = taken_same o ys l w.store all

  pub all_blind : (os : List ℕ) (w : World) → Every (Elsewhere o) os → Every Sole w.waiting → Blind (settle_all t os (set_world w)) (settle_all t os w)
  all_blind [] w e h = record { same = refl; soles = h }
  all_blind (x ∷ os) w e h =
      then_blind (ran_at x (set_world w)) (ran_at x w) (settle_all t os) (settle_all t os) (settle_blind x w e.0 h) (λ v g. all_blind os v e.1 g)

  first_both : (a b : List Mark) (r : Ran) → first (a ++ b) r ≡ first a (first b r)
  first_both a b r = ap (λ ms. record { marks = ms; world = r.world }) (append_assoc a b r.marks)

  shaped : (r1 r1' r2 r2' : Ran) → r1 ≡ r1' → r2 ≡ r2' → Blind r1' r2' → Blind r1 r2
  shaped r1 r1' r2 r2' a b h =
      subst (λ r. Blind r r2) (sym a) (subst (λ r. Blind r1' r) (sym b) h)

  pub join_blind : (q : Path) (y : ℕ) (r : ℕ → Rights) (c : Course) (n : ℕ) (w : World) → is_immediate (r o).reads ≡ false → ((kept : Store) → Sole (record { path = q; object = y; course = c; steps = n; kept = kept })) → Every Sole w.waiting → Blind (record { marks = []; world = joined q y r (record { course = c; steps = n }) (set_world w) }) (record { marks = []; world = joined q y r (record { course = c; steps = n }) w })
  join_blind q y r c n w none sole h =
      let z : 0 + o ≡ o = omega arith in
      record {
        same = ap (λ (l : Store). record { marks = []; world = record { store = slice_set w.store o ys; waiting = w.waiting ++ record { path = q; object = y; course = c; steps = n; kept = l } ∷ [] } }) (kept_set r 0 w.store o ys (subst (λ i. is_immediate (r i).reads ≡ false) (sym z) none));
        soles = every_append Sole w.waiting _ h (sole _, tt);
      }

  not_imm : (r : Right) → is_there r ≡ false → is_immediate r ≡ false
  not_imm r e = grind arith

  pub run_blind : {spec : Specification} {c : Course} → Proper spec c → is_there (rights_on spec o).reads ≡ false → is_there (rights_on spec o).writes ≡ false → is_there (rights_on spec o).commutes ≡ false → (p : Path) (k n : ℕ) (w : World) → Every Sole w.waiting → Blind (run t p spec c k n (set_world w)) (run t p spec c k n w)
  run_blind {spec} (proper_read {o = x} {c = c} {on = on} i f) r wr cm p k n w h =
      let ne : x ≢ o = not_at may_read spec x o i (no_touch (rights_on spec o).reads (rights_on spec o).commutes r cm) in
      let K : World → Ran = λ v. first (at_path p k (DidRead x c (cell v.store x c)) ∷ []) (run t p spec (on (cell v.store x c)) k n v) in
      shaped _ _ _ _ (first_both (settle t x (set_world w)) _ _) (first_both (settle t x w) _ _) (then_blind (ran_at x (set_world w)) (ran_at x w) K K (settle_blind x w ne h) (λ v g. subst (λ z. Blind (first (at_path p k (DidRead x c z) ∷ []) (run t p spec (on z) k n (set_world v))) (K v)) (sym (ap (λ xs. slice_index_or xs c (pos 0)) (get_or-set_other v.store o x ys [] ne))) (first_blind (at_path p k (DidRead x c (cell v.store x c)) ∷ []) _ _ (run_blind (f (cell v.store x c)) r wr cm p k n v g))))
  run_blind {spec} (proper_write {o = x} {c = c} {v = z} {on = on} i q) r wr cm p k n w h =
      let ne : x ≢ o = not_at may_write spec x o i (no_touch (rights_on spec o).writes (rights_on spec o).commutes wr cm) in
      let K : World → Ran = λ v. first (at_path p k (DidWrite x c z) ∷ []) (run t p spec on k n (record { store = with_cell v.store x c z; waiting = v.waiting })) in
      shaped _ _ _ _ (first_both (settle t x (set_world w)) _ _) (first_both (settle t x w) _ _) (then_blind (ran_at x (set_world w)) (ran_at x w) K K (settle_blind x w ne h) (λ v g. first_blind (at_path p k (DidWrite x c z) ∷ []) _ _ (subst (λ s. Blind (run t p spec on k n (record { store = s; waiting = v.waiting })) (run t p spec on k n (record { store = with_cell v.store x c z; waiting = v.waiting }))) (sym (after_set o ys (at_path p k (DidWrite x c z) ∷ []) v.store (ne, tt))) (run_blind q r wr cm p k n (record { store = with_cell v.store x c z; waiting = v.waiting }) g))))
  run_blind (proper_step q) r wr cm p k n w h = run_blind q r wr cm p k (suc n) w h
  run_blind {spec} (proper_create {child = child} {body = body} {on = on} none may cov size b q) r wr cm p k n w h =
      let v = covers_each spec child cov o in
      let cr = no_reads (rights_on spec o) (rights_on child o) v r in
      let cw = no_writes (rights_on spec o) (rights_on child o) v wr in
      let cz = no_commutes (rights_on spec o) (rights_on child o) v wr in
      let pk = p ++ k ∷ [] in
      let d = at_path p k (DidCreate (record { spec = child; course = body }) n) in
      let os = touched_at_once child in
      let E : World → Ran = λ x. entered (commuting_on child) pk child body (λ z. run t pk child body 0 0 z) x in
      let K : World → Ran = λ x. first (E x).marks (run t p spec on (suc k) 0 (E x).world) in
      let shape : (x : World) → run t p spec (Creates child body on) k n x ≡ first (d ∷ []) (first (settle_all t os x).marks (K (settle_all t os x).world)) = λ x. ap (first (d ∷ [])) (first_both (settle_all t os x).marks (E (settle_all t os x).world).marks (run t p spec on (suc k) 0 (E (settle_all t os x).world).world)) in
      let away : Every (Elsewhere o) os = every_chosen (Elsewhere o) _ (λ x e. not_at (λ a. is_immediate a.reads || is_immediate a.writes) child x o e (no_touch (rights_on child o).reads (rights_on child o).writes cr cw)) (objects child) in
      shaped _ _ _ _ (shape (set_world w)) (shape w) (first_blind (d ∷ []) _ _ (then_blind (settle_all t os (set_world w)) (settle_all t os w) K K (all_blind os w away h) (λ x g. then_blind (E (set_world x)) (E x) (λ z. run t p spec on (suc k) 0 z) (λ z. run t p spec on (suc k) 0 z) (go (commuting_on child) refl x g (not_imm (rights_on child o).reads cr) (run_blind b cr cw cz pk 0 0 x g)) (λ z i. run_blind q r wr cm p (suc k) 0 z i))))
    where
      go : (y : Option ℕ) → commuting_on child ≡ y → (x : World) → Every Sole x.waiting → is_immediate (rights_on child o).reads ≡ false → Blind (run t (p ++ k ∷ []) child body 0 0 (set_world x)) (run t (p ++ k ∷ []) child body 0 0 x) → Blind (entered y (p ++ k ∷ []) child body (λ z. run t (p ++ k ∷ []) child body 0 0 z) (set_world x)) (entered y (p ++ k ∷ []) child body (λ z. run t (p ++ k ∷ []) child body 0 0 z) x)
      go None e x g ne i = i
      go (Some y) e x g ne i =
          join_blind (p ++ k ∷ []) y (rights_on child) (bared body 0).course (bared body 0).steps x ne (λ kept. proper_sole _ (bared_proper b 0) e (subst (λ z. allows_commuting z child ≡ true) e may)) g
  run_blind {spec} (proper_change {new = new} {on = on} none m q) r wr cm p k n w h =
      let nr = less_false _ _ (m.reads o) r in
      let nw = less_false _ _ (m.writes o) wr in
      let nc = less_false _ _ (m.commutes o) cm in
      let os = made_touchable spec new in
      let away : Every (Elsewhere o) os = every_chosen (Elsewhere o) _ (λ x e i. false_true _ (touch_there (rights_on new o).reads (rights_on new o).writes (rights_on spec o).reads (rights_on spec o).writes nr nw) (subst (λ z. made_immediate (rights_on spec z) (rights_on new z) ≡ true) i e)) (objects new) in
      then_blind (settle_all t os (set_world w)) (settle_all t os w) (λ v. run t p new on k n v) (λ v. run t p new on k n v) (all_blind os w away h) (λ v g. run_blind q nr nw nc p k n v g)
  run_blind proper_end r wr cm p k n w h = record { same = refl; soles = h }
