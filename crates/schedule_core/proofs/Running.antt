-- What every mark of a run keeps, and every member that waits after it.
use Rattle.std.proofs.Common.{◌≡◌, ℕ, suc, Bool, true, false, List, [], ◌∷◌, ◌++◌, refl, sym, subst, Option, Some, None}
use Rattle.std.specs.Prelude.{ℤ, if◌then◌else◌}
use Rattle.jade_meaning.specs.Specification.{Specification, commuting_on}
use Rattle.jade_meaning.specs.Course.{Course, Reads, Writes, Steps, Creates, Changes, Ends}
use Rattle.jade_meaning.specs.Serial.{Mark, Path, Store, DidRead, DidWrite, DidCreate, DidEnd, after, cell, with_cell}
use Rattle.jade_meaning.specs.Turns.{Member, World, at_path, bared, group, arranged, turn, turns_taken, settle, settled, settle_all, entered, run, touched_at_once, made_touchable, chosen}
use Rattle.jade_meaning.specs.Laws.{Every}
use Rattle.schedule_core.proofs.Groups.{every_append, every_arranged, every_group, every_others, group_of}

pub every_two : {A : Type 0} (P Q : A → Type 0) (xs : List A) → Every P xs → Every Q xs → Every (λ x. P x × Q x) xs
every_two P Q [] h g = tt
every_two P Q (x ∷ xs) h g = ((h.0, g.0), every_two P Q xs h.1 g.1)

pub every_by : {A : Type 0} (P Q : A → Type 0) → ((x : A) → P x → Q x) → (xs : List A) → Every P xs → Every Q xs
every_by P Q f [] h = tt
every_by P Q f (x ∷ xs) h = (f x h.0, every_by P Q f xs h.1)

pub every_chosen : (X : ℕ → Type 0) (f : ℕ → Bool) → ((x : ℕ) → f x ≡ true → X x) → (os : List ℕ) → Every X (chosen f os)
every_chosen X f h [] = tt
every_chosen X f h (o ∷ os) = go (f o) refl (every_chosen X f h os)
  where
    go : (b : Bool) → f o ≡ b → Every X (chosen f os) → Every X (if b then o ∷ chosen f os else chosen f os)
    go true e r = (h o e, r)
    go false e r = r

module _ (t : ℕ → List Path) (P : Mark → Type 0) (Q : Member → Type 0) (X : ℕ → Type 0) (turns_keep : (q : Member) (s : Store) → Q q → X q.object → Every P (turn q s)) where
  taken_good : (qs : List Member) (s : Store) → Every (λ q. Q q × X q.object) qs → Every P (turns_taken qs s)
  taken_good [] s h = tt
  taken_good (q ∷ qs) s h =
      every_append P (turn q s) (turns_taken qs (after (turn q s) s)) (turns_keep q s h.0.0 h.0.1) (taken_good qs (after (turn q s) s) h.1)

  pub settle_good : (o : ℕ) (w : World) → X o → Every Q w.waiting → Every P (settle t o w) × Every Q (settled t o w).waiting
  settle_good o w x h =
      let g = every_group Q o w.waiting h in
      (taken_good (arranged (t o) (group o w.waiting)) w.store (every_arranged (λ q. Q q × X q.object) (t o) (group o w.waiting) (every_two Q (λ q. X q.object) (group o w.waiting) g (every_by (λ q. q.object ≡ o) (λ q. X q.object) (λ q e. subst X (sym e) x) (group o w.waiting) (group_of o w.waiting)))), every_others Q o w.waiting h)

  pub all_good : (os : List ℕ) (w : World) → Every X os → Every Q w.waiting → Every P (settle_all t os w).marks × Every Q (settle_all t os w).world.waiting
  all_good [] w x h = (tt, h)
  all_good (o ∷ os) w x h =
      let a = settle_good o w x.0 h in
      let b = all_good os (settled t o w) x.1 a.1 in
      (every_append P (settle t o w) (settle_all t os (settled t o w)).marks a.0 b.0, b.1)

  -- a course whose run keeps to them
  abbrev pub Good : Path → Specification → Course → ℕ → Type 0
  Good p spec (Reads o c on) k = X o × ((v : ℤ) → P (at_path p k (DidRead o c v)) × Good p spec (on v) k)
  Good p spec (Writes o c v on) k = X o × (P (at_path p k (DidWrite o c v))) × (Good p spec on k)
  Good p spec (Steps on) k = Good p spec on k
  Good p spec (Creates child body on) k =
      ((n : ℕ) → P (at_path p k (DidCreate (record { spec = child; course = body }) n))) × (Every X (touched_at_once child)) × ((y : ℕ) → commuting_on child ≡ Some y → (kept : Store) → Q (record { path = p ++ k ∷ []; object = y; course = (bared body 0).course; steps = (bared body 0).steps; kept = kept })) × (commuting_on child ≡ None → Good (p ++ k ∷ []) child body 0) × (Good p spec on (suc k))
  Good p spec (Changes new on) k = Every X (made_touchable spec new) × Good p new on k
  Good p spec (Ends b) k = (n : ℕ) → P (at_path p k (DidEnd b n))

  pub run_good : (c : Course) (p : Path) (spec : Specification) (k n : ℕ) (w : World) → Good p spec c k → Every Q w.waiting → Every P (run t p spec c k n w).marks × Every Q (run t p spec c k n w).world.waiting
  run_good (Reads o c on) p spec k n w g h =
      let a = settle_good o w g.0 h in
      let v = cell (settled t o w).store o c in
      let r = run_good (on v) p spec k n (settled t o w) (g.1 v).1 a.1 in
      (every_append P (settle t o w ++ at_path p k (DidRead o c v) ∷ []) _ (every_append P (settle t o w) (at_path p k (DidRead o c v) ∷ []) a.0 ((g.1 v).0, tt)) r.0, r.1)
  run_good (Writes o c v on) p spec k n w g h =
      let a = settle_good o w g.0 h in
      let r = run_good on p spec k n (record { store = with_cell (settled t o w).store o c v; waiting = (settled t o w).waiting }) g.2 a.1 in
      (every_append P (settle t o w ++ at_path p k (DidWrite o c v) ∷ []) _ (every_append P (settle t o w) (at_path p k (DidWrite o c v) ∷ []) a.0 (g.1, tt)) r.0, r.1)
  run_good (Steps on) p spec k n w g h = run_good on p spec k (suc n) w g h
  run_good (Creates child body on) p spec k n w g h =
      let q = p ++ k ∷ [] in
      let s = settle_all t (touched_at_once child) w in
      let a = all_good (touched_at_once child) w g.1 h in
      let i = go (commuting_on child) refl s.world a.1 (λ e. run_good body q child 0 0 s.world (g.3 e) a.1) in
      let inner = entered (commuting_on child) q child body (λ x. run t q child body 0 0 x) s.world in
      let r = run_good on p spec (suc k) 0 inner.world g.4 i.1 in
      ((g.0 n, every_append P (s.marks ++ inner.marks) _ (every_append P s.marks inner.marks a.0 i.0) r.0), r.1)
    where
      go : (x : Option ℕ) → commuting_on child ≡ x → (v : World) → Every Q v.waiting → (commuting_on child ≡ None → Every P (run t (p ++ k ∷ []) child body 0 0 v).marks × Every Q (run t (p ++ k ∷ []) child body 0 0 v).world.waiting) → Every P (entered x (p ++ k ∷ []) child body (λ z. run t (p ++ k ∷ []) child body 0 0 z) v).marks × Every Q (entered x (p ++ k ∷ []) child body (λ z. run t (p ++ k ∷ []) child body 0 0 z) v).world.waiting
      go None e v i r = r e
      go (Some y) e v i r = (tt, every_append Q v.waiting _ i (g.2 y e _, tt))
  run_good (Changes new on) p spec k n w g h =
      let s = settle_all t (made_touchable spec new) w in
      let a = all_good (made_touchable spec new) w g.0 h in
      let r = run_good on p new k n s.world g.1 a.1 in
      (every_append P s.marks _ a.0 r.0, r.1)
  run_good (Ends b) p spec k n w g h = ((g n, tt), h)
