-- A creation.
use Rattle.std.proofs.Common.{◌≡◌, ℕ, suc, ◌<◌, ◌+◌, add-zero, Bool, true, false, ◌||◌, List, [], ◌∷◌, ◌++◌, length, refl, sym, ap, ◌∙◌, subst, Option, Some, None, arith, append_assoc, ◌⊎◌, inl, inr, length-append}
use Rattle.std.specs.Prelude.{if◌then◌else◌, is_some, slice_set}
use Rattle.jade_base.specs.declared.rights.Rights.{Rights}
use Rattle.jade_meaning.specs.Specification.{Specification, rights_on, commuting_on, allows_commuting, covers, yields}
use Rattle.jade_base.specs.Rights.{is_there, has_rights, covered}
use Rattle.jade_base.specs.declared.rights.Mode.{Mode}
use Rattle.jade_base.specs.declared.rights.Mode.TheVariants.{Reading, Writing, Commuting}
use Rattle.jade_meaning.specs.Course.{Course, Reads, Writes, Steps, Creates, Changes, Ends}
use Rattle.jade_meaning.specs.Talk.{Holds, start_holds}
use Rattle.jade_meaning.specs.Serial.{Mark, Path, Store, Deed, DidTurn, DidRead, DidWrite, DidCreate, DidEnd, after, done_to, cell, with_cell}
use Rattle.jade_meaning.specs.Turns.{Member, World, Ran, at_path, bared, settle, settled, settle_all, first, entered, joined, run, touched_at_once, made_touchable}
use Rattle.jade_meaning.specs.Serial.{at_object}
use Rattle.schedule_core.specs.Core.{Cells, Live, Bare, changes, touches, writes_there, is_out, content_for, version_or, child_of}
use Rattle.jade_meaning.specs.Doing.{opened}
use Rattle.jade_meaning.specs.Proper.{Proper, proper_read, proper_write, proper_step, proper_create, proper_change, proper_end}
use Rattle.jade_meaning.specs.Laws.{Every}
use Rattle.schedule_core.specs.Sound.{Fit, Even, Before, Fresh, settling, awaits, left, left_from, may}
use Rattle.schedule_core.specs.Onwards.{sees, sited, step, onwards}
use Rattle.schedule_core.specs.Going.{world_of}
use Rattle.schedule_core.proofs.Groups.{Leaves, Spares, Sole, after_both}
use Rattle.schedule_core.proofs.Opens.{Clear, left_of, opens}
use Rattle.schedule_core.proofs.Calm.{left_empty}
use Rattle.schedule_core.proofs.Splits.{covers_each, no_writes, no_commutes, child_runs}
use Rattle.schedule_core.proofs.Running.{every_by}
use Rattle.schedule_core.proofs.Idle.{none_commutes}
use Rattle.schedule_core.proofs.Front.{waits_sole, front_calm}
use Rattle.schedule_core.proofs.Taking.{sees_at, sees_set}
use Rattle.schedule_core.proofs.Takes.{sees_same}
use Rattle.schedule_core.proofs.Frame.{past, fronts_quiet, left_blind, onwards_one}
use Rattle.schedule_core.proofs.Pend.{plain_left, calm_content}
use Rattle.schedule_core.proofs.Pend2.{soles_before}
use Rattle.schedule_core.proofs.Opened.{plain_of, proper_plain, opened_plain, live_of, at_deed, settled_on}
use Rattle.schedule_core.proofs.Starts.{fit_start, plain_waits, plain_commutes, own_waits, own_settles, T}
use Rattle.schedule_core.proofs.Deeds.{Here, clear_plan, sees_in, length_w}

-- a run's store is what its marks make of the store
module _ (t : ℕ → List Path) where
  pub all_store : (os : List ℕ) (w : World) → (settle_all t os w).world.store ≡ after (settle_all t os w).marks w.store
  all_store [] w = refl
  all_store (o ∷ os) w =
      all_store os (settled t o w) ∙ sym (after_both (settle t o w) (settle_all t os (settled t o w)).marks w.store)

  pub run_store : (c : Course) (p : Path) (spec : Specification) (k n : ℕ) (w : World) → (run t p spec c k n w).world.store ≡ after (run t p spec c k n w).marks w.store
  run_store (Reads o c on) p spec k n w =
      let x = settled t o w in
      let v = cell x.store o c in
      run_store (on v) p spec k n x ∙ sym (after_both (settle t o w ++ at_path p k (DidRead o c v) ∷ []) (run t p spec (on v) k n x).marks w.store ∙ ap (after (run t p spec (on v) k n x).marks) (after_both (settle t o w) (at_path p k (DidRead o c v) ∷ []) w.store))
  run_store (Writes o c v on) p spec k n w =
      let x = settled t o w in
      let y : World = record { store = with_cell x.store o c v; waiting = x.waiting } in
      run_store on p spec k n y ∙ sym (after_both (settle t o w ++ at_path p k (DidWrite o c v) ∷ []) (run t p spec on k n y).marks w.store ∙ ap (after (run t p spec on k n y).marks) (after_both (settle t o w) (at_path p k (DidWrite o c v) ∷ []) w.store))
  run_store (Steps on) p spec k n w = run_store on p spec k (suc n) w
  run_store (Creates child body on) p spec k n w =
      let q = p ++ k ∷ [] in
      let s = settle_all t (touched_at_once child) w in
      let i = entered (commuting_on child) q child body (λ x. run t q child body 0 0 x) s.world in
      let r = run t p spec on (suc k) 0 i.world in
      run_store on p spec (suc k) 0 i.world ∙ ap (after r.marks) (go (commuting_on child) s.world (run_store body q child 0 0 s.world) ∙ ap (after i.marks) (all_store (touched_at_once child) w) ∙ sym (after_both s.marks i.marks w.store)) ∙ sym (after_both (s.marks ++ i.marks) r.marks w.store)
    where
      go : (x : Option ℕ) (v : World) → (run t (p ++ k ∷ []) child body 0 0 v).world.store ≡ after (run t (p ++ k ∷ []) child body 0 0 v).marks v.store → (entered x (p ++ k ∷ []) child body (λ z. run t (p ++ k ∷ []) child body 0 0 z) v).world.store ≡ after (entered x (p ++ k ∷ []) child body (λ z. run t (p ++ k ∷ []) child body 0 0 z) v).marks v.store
      go None v e = e
      go (Some y) v e = refl
  run_store (Changes new on) p spec k n w =
      let s = settle_all t (made_touchable spec new) w in
      run_store on p new k n s.world ∙ ap (after (run t p new on k n s.world).marks) (all_store (made_touchable spec new) w) ∙ sym (after_both s.marks (run t p new on k n s.world).marks w.store)
  run_store (Ends b) p spec k n w = refl

  pub left_store : (u : Live World) → (left t u).world.store ≡ after (left t u).marks u.place.store
  left_store u =
      let s = settle_all t (settling u.doing.pending) u.place in
      let r = left_from t (awaits u.doing.pending) (commuting_on u.doing.spec) u s.world in
      go (awaits u.doing.pending) (commuting_on u.doing.spec) s.world ∙ ap (after r.marks) (all_store (settling u.doing.pending) u.place) ∙ sym (after_both s.marks r.marks u.place.store)
    where
      go : (x y : Option ℕ) (w : World) → (left_from t x y u w).world.store ≡ after (left_from t x y u w).marks w.store
      go (Some x) y w = refl
      go None (Some y) w = refl
      go None None w = run_store u.doing.course u.path u.doing.spec u.part u.doing.steps w

-- what a task sees after marks that spare what it has versions of
sees_after : (u : Live Bare) (ms : List Mark) (s : Store) → ((o : ℕ) → is_some (u.versions o) ≡ true → Leaves o ms) → sees u 0 (after ms s) ≡ after ms (sees u 0 s)
sees_after u [] s h = refl
sees_after u (m ∷ ms) s h =
    sees_after u ms (done_to m.deed s) (λ o e. (h o e).1) ∙ ap (after ms) (one m.deed (λ o e. (h o e).0))
  where
    one : (d : Deed) → ((o : ℕ) → is_some (u.versions o) ≡ true → Spares o d) → sees u 0 (done_to d s) ≡ done_to d (sees u 0 s)
    one (DidWrite o c v) f = go (u.versions o) refl
      where
        go : (x : Option Cells) → u.versions o ≡ x → sees u 0 (with_cell s o c v) ≡ with_cell (sees u 0 s) o c v
        go (Some xs) e = absurd (f o (ap is_some e) refl)
        go None e =
            let z : 0 + o ≡ o = omega arith in
            let n : u.versions (0 + o) ≡ None = subst (λ k. u.versions k ≡ None) (sym z) e in
            sees_set u 0 o s (slice_set (at_object s o) c v) n ∙ ap (λ (xs : Cells). slice_set (sees u 0 s) o (slice_set xs c v)) (sym (sees_at u 0 o s n))
    one (DidRead o c v) f = refl
    one (DidTurn o) f = refl
    one (DidCreate x n) f = refl
    one (DidEnd b n) f = refl

set_length : (pre : Store) (x y : Cells) (r : Store) → slice_set (pre ++ (x ∷ r)) (length pre) y ≡ pre ++ (y ∷ r)
set_length [] x y r = refl
set_length (z ∷ pre) x y r = ap (λ s. z ∷ s) (set_length pre x y r)

-- a task sees nothing of objects on which it has no rights
module _ (t : ℕ → List Path) (u : Live Bare) (fit : Fit u) (ws : List Member) (soles : Every Sole ws) where
  abbrev placed_at : Store → Live World
  placed_at s = record { path = u.path; part = u.part; place = record { store = s; waiting = ws }; rights = u.rights; held = u.held; versions = u.versions; doing = u.doing }

  abbrev L : Store → Ran
  L s = left t (placed_at s)

  abbrev Even_ran : Ran → Ran → Type 0
  Even_ran r1 r2 = (r1.marks ≡ r2.marks) × (r1.world.waiting ≡ r2.world.waiting)

  fit_placed : (s : Store) → Fit (placed_at s)
  fit_placed s = record {
    proper = fit.proper;
    less = fit.less;
    holds = fit.holds;
    keeps = fit.keeps;
    reading = fit.reading;
    orderly = fit.orderly;
    last = fit.last;
    own_last = fit.own_last;
    commuting = fit.commuting;
    reads = fit.reads;
    begun = fit.begun;
    turned = fit.turned;
  }

  abbrev pub Rightless : ℕ → Type 0
  Rightless o = (is_there (u.rights o).reads ≡ false) × (is_there (u.rights o).writes ≡ false) × (is_out (u.held o) ≡ false)

  same_many : (pre a1 a2 : Store) → length a1 ≡ length a2 → ((i : ℕ) → i < length a1 → (at_object a1 i ≡ at_object a2 i) ⊎ Rightless (length pre + i)) → Even_ran (L (pre ++ a1)) (L (pre ++ a2))
  same_many pre [] [] e h = (refl, refl)
  same_many pre [] (x ∷ a2) e h = absurd (cc)
  same_many pre (x ∷ a1) [] e h = absurd (cc)
  same_many pre (x ∷ a1) (y ∷ a2) e h =
      let one = head (subst (λ k. (x ≡ y) ⊎ Rightless k) (add-zero (length pre)) (h 0 (omega arith))) in
      let two = same_many (pre ++ y ∷ []) a1 a2 (let q : suc (length a1) ≡ suc (length a2) = e in omega arith) (λ i lt. let z : length pre + suc i ≡ length (pre ++ y ∷ []) + i = longer i in subst (λ k. (at_object a1 i ≡ at_object a2 i) ⊎ Rightless k) z (h (suc i) (omega arith))) in
      let shape : (r : Store) → (pre ++ y ∷ []) ++ r ≡ pre ++ (y ∷ r) = λ r. append_assoc pre (y ∷ []) r in
      (one.0 ∙ sym (ap (λ s. (L s).marks) (shape a1)) ∙ two.0 ∙ ap (λ s. (L s).marks) (shape a2), one.1 ∙ sym (ap (λ s. (L s).world.waiting) (shape a1)) ∙ two.1 ∙ ap (λ s. (L s).world.waiting) (shape a2))
    where
      longer : (i : ℕ) → length pre + suc i ≡ length (pre ++ y ∷ []) + i
      longer i = let z : length (pre ++ y ∷ []) ≡ length pre + 1 = length-append pre (y ∷ []) in omega arith

      head : (x ≡ y) ⊎ Rightless (length pre) → Even_ran (L (pre ++ (x ∷ a1))) (L (pre ++ (y ∷ a1)))
      head (inl q) = (ap (λ z. (L (pre ++ (z ∷ a1))).marks) q, ap (λ z. (L (pre ++ (z ∷ a1))).world.waiting) q)
      head (inr q) =
          let b = (left_blind t (length pre) y (placed_at (pre ++ (x ∷ a1))) (fit_placed (pre ++ (x ∷ a1))) q.0 q.1 q.2 (λ z a kept. waits_sole u fit z a kept) soles).same in
          let s = set_length pre x y a1 in
          (sym (ap (λ z. (L z).marks) (sym s) ∙ ap (λ (r : Ran). r.marks) b), sym (ap (λ z. (L z).world.waiting) (sym s) ∙ ap (λ (r : Ran). r.world.waiting) b))

module _ (t : ℕ → List Path) (size : ℕ) (f : ℕ → Cells) (b l : List (Live Bare)) (P : Path) (K : ℕ) (R : ℕ → Rights) (H : ℕ → Option Mode) (V : ℕ → Option Cells) (S : Specification) (A : Holds) (N : ℕ) (child : Specification) (body on : Course) where
  abbrev pub creates_now : Live Bare
  creates_now = live_of P K R H V (at_deed S A N (Creates child body on))

  abbrev pub kid : Live Bare
  kid = child_of child body creates_now

  abbrev pub next : Live Bare
  next = live_of P (suc K) R H V (opened on S A 0)

  pub record Parts : Type 0 where
    pub none : commuting_on S ≡ None
    pub may : allows_commuting (commuting_on child) child ≡ true
    pub cov : covers S child ≡ true
    pub sized : length child ≡ length S
    pub inner : Proper child body
    pub rest : Proper S on

  parts_of : Proper S (Creates child body on) → Parts
  parts_of p = go (Creates child body on) refl p
    where
      go : (c : Course) → c ≡ Creates child body on → Proper S c → Parts
      go _ e (proper_read i k) = absurd (cc)
      go _ e (proper_write i k) = absurd (cc)
      go _ e (proper_step k) = absurd (cc)
      go _ e (proper_create {child = child'} {body = body'} {on = on'} n x y z i k) = record {
        none = n;
        may = subst (λ s. allows_commuting (commuting_on s) s ≡ true) (one e) x;
        cov = subst (λ s. covers S s ≡ true) (one e) y;
        sized = subst (λ s. length s ≡ length S) (one e) z;
        inner = subst (λ s. Proper s body) (one e) (subst (Proper child') (two e) i);
        rest = subst (Proper S) (three e) k;
      }
        where
          one : {child' : Specification} {body' on' : Course} → Creates child' body' on' ≡ Creates child body on → child' ≡ child
          one e = cc

          two : {child' : Specification} {body' on' : Course} → Creates child' body' on' ≡ Creates child body on → body' ≡ body
          two e = cc

          three : {child' : Specification} {body' on' : Course} → Creates child' body' on' ≡ Creates child body on → on' ≡ on
          three e = cc
      go _ e (proper_change n x k) = absurd (cc)
      go _ e proper_end = absurd (cc)

  module _ (h : Here size b creates_now) where
    abbrev w : World
    w = (onwards t b (world_of size f)).world

    abbrev place : Store
    place = sees creates_now 0 w.store

    abbrev Q : World
    Q = record { store = place; waiting = w.waiting }

    abbrev mk : Mark
    mk = at_path P K (DidCreate (record { spec = child; course = body }) N)

    pub p : Parts
    p = parts_of h.fit.proper

    pub even_body : Even (length child) body
    even_body = subst (λ n. Even n body) (sym p.sized) h.fit.orderly.0.even.1

    pub ready : (o : ℕ) → yields (H o) (rights_on child o) ≡ false
    ready = h.fit.orderly.1

    pub cover : (o : ℕ) → covered (R o) (rights_on child o) ≡ true
    cover o = subst (λ a. covered a (rights_on child o) ≡ true) (sym (h.fit.orderly.0.rights o)) (covers_each S child p.cov o)

    pub or_none : (x y : Bool) → x ≡ false → y ≡ false → x || y ≡ false
    or_none x y e i = ap (λ z. z || y) e ∙ i

    pub or_l : (x y : Bool) → x || y ≡ false → x ≡ false
    or_l true y e = absurd (cc)
    or_l false y e = refl

    pub or_r : (x y : Bool) → x || y ≡ false → y ≡ false
    or_r true y e = absurd (cc)
    or_r false y e = e

    pub none_has : (a : Rights) → has_rights a ≡ false → is_there a.writes || is_there a.commutes ≡ false
    none_has a e = or_none _ _ (or_r (is_there a.reads) _ (or_l _ _ e)) (or_r (is_there a.reads || is_there a.writes) _ e)

    -- where the task may not write, its child may not write or commute
    pub child_calm : (o : ℕ) → writes_there o creates_now ≡ false → writes_there o kid ≡ false
    child_calm o e =
        or_none _ _ (no_writes (R o) (rights_on child o) (cover o) (or_l _ _ e)) (no_commutes (R o) (rights_on child o) (cover o) (or_l _ _ e))

    -- nor where the task holds it
    pub held_calm : (o : ℕ) → is_some (H o) ≡ true → writes_there o kid ≡ false
    held_calm o e = go (H o) refl e (ready o)
      where
        go : (m : Option Mode) → H o ≡ m → is_some m ≡ true → yields m (rights_on child o) ≡ false → writes_there o kid ≡ false
        go None q e k = absurd (cc)
        go (Some Reading) q e k = k
        go (Some Writing) q e k = none_has (rights_on child o) k
        go (Some Commuting) q e k = none_has (rights_on child o) k

    -- nor where it has a version
    pub seen_calm : (o : ℕ) → is_some (V o) ≡ true → writes_there o kid ≡ false
    seen_calm o e = go (writes_there o creates_now) refl
      where
        go : (x : Bool) → writes_there o creates_now ≡ x → writes_there o kid ≡ false
        go false i = child_calm o i
        go true i = held_calm o (ap is_some (h.fit.keeps o e i))

    pub shown : (a : Bool) (v : Option Cells) → is_some (if a then v else None) ≡ true → is_some v ≡ true
    shown true v e = e
    shown false v e = absurd (cc)

    -- the version that the child is given: that of an entry that is seen
    abbrev pub given_on : ℕ → Option Cells
    given_on o = if changes (R o) then None else V o

    pub was_some : (o : ℕ) → is_some (if touches (rights_on child o) then given_on o else None) ≡ true → is_some (V o) ≡ true
    was_some o e = go (changes (R o)) (shown (touches (rights_on child o)) (given_on o) e)
      where
        go : (x : Bool) → is_some (if x then None else V o) ≡ true → is_some (V o) ≡ true
        go true e = absurd (cc)
        go false e = e

    pub fit_kid : Fit kid
    fit_kid = fit_start child body p.inner even_body p.may (P ++ K ∷ []) (λ o. if touches (rights_on child o) then given_on o else None) (λ o e. seen_calm o (was_some o e))

    soles : Every Sole w.waiting
    soles = (soles_before t size f b creates_now h.fits_b h.apart_b).1

    -- the child at the task's place
    abbrev KQ : Ran
    KQ = left t (record { path = P ++ K ∷ []; part = 0; place = Q; rights = rights_on child; held = kid.held; versions = kid.versions; doing = kid.doing })

    abbrev KW : Ran
    KW = left t (sited kid w)

    -- what the run does at the creation is what is left of the child
    kid_runs : record { marks = (settle_all t (touched_at_once child) Q).marks ++ (entered (commuting_on child) (P ++ K ∷ []) child body (λ x. run t (P ++ K ∷ []) child body 0 0 x) (settle_all t (touched_at_once child) Q).world).marks; world = (entered (commuting_on child) (P ++ K ∷ []) child body (λ x. run t (P ++ K ∷ []) child body 0 0 x) (settle_all t (touched_at_once child) Q).world).world } ≡ KQ
    kid_runs = go (commuting_on child) refl p.may
      where
        sq : Ran
        sq = settle_all t (touched_at_once child) Q

        KL : Live World
        KL = record { path = P ++ K ∷ []; part = 0; place = Q; rights = rights_on child; held = kid.held; versions = kid.versions; doing = kid.doing }

        go : (x : Option ℕ) → commuting_on child ≡ x → allows_commuting x child ≡ true → record { marks = sq.marks ++ (entered (commuting_on child) (P ++ K ∷ []) child body (λ x. run t (P ++ K ∷ []) child body 0 0 x) sq.world).marks; world = (entered (commuting_on child) (P ++ K ∷ []) child body (λ x. run t (P ++ K ∷ []) child body 0 0 x) sq.world).world } ≡ left t KL
        go None e may =
            ap (λ x. first sq.marks (entered x (P ++ K ∷ []) child body (λ x. run t (P ++ K ∷ []) child body 0 0 x) sq.world)) e ∙ sym (plain_left t KL (plain_waits child body p.inner even_body e) (plain_commutes child body p.inner even_body e) ∙ child_runs t (P ++ K ∷ []) child body Q e (plain_of child e) (proper_plain p.inner (none_commutes child e)))
        go (Some y) e may =
            let told = T child body p.inner even_body y e may in
            let d = opened body child (start_holds child) 0 in
            ap (λ x. first sq.marks (entered x (P ++ K ∷ []) child body (λ x. run t (P ++ K ∷ []) child body 0 0 x) sq.world)) e ∙ ap (λ c. first sq.marks (record { marks = []; world = joined (P ++ K ∷ []) y (rights_on child) (record { course = c; steps = (bared body 0).steps }) sq.world })) told.course ∙ ap (λ n. first sq.marks (record { marks = []; world = joined (P ++ K ∷ []) y (rights_on child) (record { course = d.course; steps = n }) sq.world })) told.steps ∙ sym (ap (λ os. first (settle_all t os Q).marks (left_from t (awaits kid.doing.pending) (commuting_on kid.doing.spec) KL (settle_all t os Q).world)) (own_settles child body p.inner even_body y e may) ∙ ap (λ x. first sq.marks (left_from t x (commuting_on kid.doing.spec) KL sq.world)) (own_waits child body p.inner even_body y e may))

    -- nobody waits on what the task holds, also after the child
    clear_next : Clear A KQ.world
    clear_next o i =
        let c = clear_plan t size [] [] f [] b l P K R H V S A N (Creates child body on) h p.none place o i in
        let fq : Fit (record { path = P ++ K ∷ []; part = 0; place = Q; rights = rights_on child; held = kid.held; versions = kid.versions; doing = kid.doing }) = record { proper = fit_kid.proper; less = fit_kid.less; holds = fit_kid.holds; keeps = fit_kid.keeps; reading = fit_kid.reading; orderly = fit_kid.orderly; last = fit_kid.last; own_last = fit_kid.own_last; commuting = fit_kid.commuting; reads = fit_kid.reads; begun = fit_kid.begun; turned = fit_kid.turned } in
        left_empty t o (record { path = P ++ K ∷ []; part = 0; place = Q; rights = rights_on child; held = kid.held; versions = kid.versions; doing = kid.doing }) fq (held_calm o (ap is_some (h.fit.orderly.0.holds o) ∙ i)) c

    abbrev NQ : Ran
    NQ = left_of t P (suc K) (opened on S A 0) KQ.world

    create_left : left t (sited creates_now w) ≡ record { marks = mk ∷ (KQ.marks ++ NQ.marks); world = NQ.world }
    create_left =
        plain_left t (sited creates_now w) refl p.none ∙ ap (λ (r : Ran). record { marks = mk ∷ (r.marks ++ (run t P S on (suc K) 0 r.world).marks); world = (run t P S on (suc K) 0 r.world).world }) kid_runs ∙ ap (λ (r : Ran). record { marks = mk ∷ (KQ.marks ++ r.marks); world = r.world }) (sym (opens t on S A 0 P (suc K) KQ.world (proper_plain p.rest (none_commutes S p.none)) clear_next))

    module _ (fr : (o : ℕ) → Fresh o (f o) creates_now) where
      kid_same : (KW.marks ≡ KQ.marks) × (KW.world.waiting ≡ KQ.world.waiting)
      kid_same =
          same_many t kid fit_kid w.waiting soles [] (sees kid 0 w.store) place (length_both 0 w.store) (λ i lt. let z : 0 + i ≡ i = omega arith in subst (λ k. (at_object (sees kid 0 w.store) i ≡ at_object place i) ⊎ ((is_there (rights_on child k).reads ≡ false) × (is_there (rights_on child k).writes ≡ false) × (is_out (kid.held k) ≡ false))) (sym z) (at i (subst (λ n. i < n) (length_one 0 w.store) lt)))
        where
          length_one : (i : ℕ) (s : Store) → length (sees kid i s) ≡ length s
          length_one i [] = refl
          length_one i (x ∷ s) = ap suc (length_one (suc i) s)

          length_both : (i : ℕ) (s : Store) → length (sees kid i s) ≡ length (sees creates_now i s)
          length_both i [] = refl
          length_both i (x ∷ s) = ap suc (length_both (suc i) s)

          -- who has a version and may change the object has the content as it is now
          handed : (i : ℕ) → i < length w.store → (x : Bool) → changes (R i) ≡ x → (v : Option Cells) → V i ≡ v → version_or (if changes (R i) then None else V i) (at_object w.store i) ≡ version_or (V i) (at_object w.store i)
          handed i lt false e v ev = ap (λ b. version_or (if b then None else V i) (at_object w.store i)) e
          handed i lt true e None ev = ap (λ b. version_or (if b then None else V i) (at_object w.store i)) e ∙ sym (ap (λ v. version_or v (at_object w.store i)) ev)
          handed i lt true e (Some xs) ev =
              let now = calm_content t size f i b h.fits_b (every_by (λ s. Before i s creates_now) (λ s. writes_there i s ≡ false) (λ s k. k.reading (ap is_some ev)) b (h.before_b i)) (subst (λ n. i < n) (length_w t size f b creates_now h) lt) in
              let own : xs ≡ f i = sym (ap (λ v. version_or v (f i)) ev) ∙ fr i e in
              ap (λ b. version_or (if b then None else V i) (at_object w.store i)) e ∙ now.0 ∙ sym own ∙ sym (ap (λ v. version_or v (at_object w.store i)) ev)

          at : (i : ℕ) → i < length w.store → (at_object (sees kid 0 w.store) i ≡ at_object place i) ⊎ Rightless t kid fit_kid w.waiting soles i
          at i lt = go (touches (rights_on child i)) refl
            where
              z : 0 + i ≡ i
              z = omega arith

              go : (x : Bool) → touches (rights_on child i) ≡ x → (at_object (sees kid 0 w.store) i ≡ at_object place i) ⊎ Rightless t kid fit_kid w.waiting soles i
              go true e =
                  inl (sees_in kid 0 i w.store lt ∙ ap (λ k. content_for kid k (at_object w.store i)) z ∙ ap (λ x. version_or (if x then given_on i else None) (at_object w.store i)) e ∙ handed i lt (changes (R i)) refl (V i) refl ∙ ap (λ k. content_for creates_now k (at_object w.store i)) (sym z) ∙ sym (sees_in creates_now 0 i w.store lt))
              go false e = inr (or_l _ _ e, or_l _ _ (or_r (is_there (rights_on child i).reads) _ e), refl)

      -- the world behind the child
      abbrev w2 : World
      w2 = (step t kid w).world

      next_store : sees next 0 w2.store ≡ KQ.world.store
      next_store =
          sees_same next creates_now (λ x. refl) 0 w2.store ∙ sees_after creates_now KW.marks w.store (λ o e. (quiet_kid o e).0) ∙ ap (λ ms. after ms place) kid_same.0 ∙ sym (left_store t (record { path = P ++ K ∷ []; part = 0; place = Q; rights = rights_on child; held = kid.held; versions = kid.versions; doing = kid.doing }))
        where
          quiet_kid : (o : ℕ) → is_some (V o) ≡ true → Leaves o KW.marks × Every Sole (step t kid w).world.waiting
          quiet_kid o e =
              let q = fronts_quiet t o b (world_of size f) h.fits_b (every_by (λ s. Before o s creates_now) (λ s. writes_there o s ≡ false) (λ s k. k.reading e) b (h.before_b o)) refl tt in
              front_calm t o kid w fit_kid (or_l _ _ (seen_calm o e)) (or_r (is_there (rights_on child o).writes) _ (seen_calm o e)) q.1 soles

      next_left : left t (sited next w2) ≡ NQ
      next_left =
          let even : Even (length S) on = h.fit.orderly.0.even.2 in
          let pl = opened_plain on S A 0 R H p.rest (settled_on P K R H V S A N (Creates child body on) h.fit on even) p.none in
          plain_left t (sited next w2) pl.0 pl.1 ∙ ap (λ s. left_of t P (suc K) (opened on S A 0) (record { store = s; waiting = w2.waiting })) next_store ∙ ap (λ ms. left_of t P (suc K) (opened on S A 0) (record { store = KQ.world.store; waiting = ms })) kid_same.1

      pub create_middle : step t creates_now w ≡ first (mk ∷ []) (onwards t (kid ∷ (next ∷ [])) (past t (mk ∷ []) w))
      create_middle =
          let G : List Mark → Ran → Ran = λ ks r. record { marks = mk ∷ (ks ++ r.marks); world = record { store = after (ks ++ r.marks) w.store; waiting = r.world.waiting } } in
          ap (λ (r : Ran). record { marks = r.marks; world = record { store = after r.marks w.store; waiting = r.world.waiting } }) create_left ∙ ap (λ ks. G ks NQ) (sym kid_same.0) ∙ ap (G KW.marks) (sym next_left) ∙ ap (λ s. record { marks = mk ∷ (KW.marks ++ (left t (sited next w2)).marks); world = record { store = s; waiting = (left t (sited next w2)).world.waiting } }) (after_both KW.marks (left t (sited next w2)).marks w.store) ∙ ap (λ r. first (mk ∷ []) (first KW.marks r)) (sym (onwards_one t next w2))
