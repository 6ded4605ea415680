-- What is left of a live task itself is of the part that it has come to, or of later ones.
use Rattle.std.proofs.Common.{◌≡◌, ℕ, ◌≤◌, suc, true, List, [], ◌∷◌, ◌++◌, refl, sym, ◌∙◌, subst, arith, append-nil, append_assoc}
use Rattle.jade_meaning.specs.Specification.{Specification, numbers, allows_commuting}
use Rattle.jade_meaning.specs.Course.{Course}
use Rattle.jade_meaning.specs.Serial.{Path, Store, Mark}
use Rattle.jade_meaning.specs.Turns.{Member, World, turn, touched_at_once, made_touchable}
use Rattle.jade_meaning.specs.Laws.{Every}
use Rattle.jade_meaning.specs.Proper.{Proper, proper_read, proper_write, proper_step, proper_create, proper_change, proper_end}
use Rattle.schedule_core.specs.Core.{Bare, Live}
use Rattle.schedule_core.specs.Sound.{Fit, Apart, Pairs, Within, settling}
use Rattle.schedule_core.specs.Going.{world_of, to_come}
use Rattle.schedule_core.specs.Onwards.{onwards, sited, step}
use Rattle.schedule_core.specs.Unplaced.{State}
use Rattle.schedule_core.proofs.Groups.{Sole, every_append}
use Rattle.schedule_core.proofs.Idle.{Any, every_any, left_good}
use Rattle.schedule_core.proofs.Running.{Good, all_good, every_by}
use Rattle.schedule_core.proofs.Soles.{proper_sole, bared_proper}
use Rattle.schedule_core.proofs.Front.{waits_sole}
use Rattle.schedule_core.proofs.Behind.{flat_children}
use Rattle.schedule_core.proofs.Unborn.{own_within}

not_longer : (p : Path) (k : ℕ) (q : Path) → p ++ k ∷ q ≡ p → ⊥
not_longer [] k q e = absurd (cc)
not_longer (i ∷ p) k q e = not_longer p k q (cc)

module _ (t : ℕ → List Path) (z : Path) (n : ℕ) where
  abbrev P : Mark → Type 0
  P m = m.path ≡ z → n ≤ m.children

  abbrev Q : Member → Type 0
  Q q = Sole q × (q.path ≡ z → n ≡ 0)

  keep : (q : Member) (s : Store) → Q q → Any q.object → Every P (turn q s)
  keep q s h a = every_by (λ (m : Mark). m.path ≡ q.path) P (λ m i e. let k : n ≡ 0 = h.1 (sym i ∙ e) in omega arith) (turn q s) (h.0.1 s)

  -- a task of this path has come to this part, and makes nothing of this path
  abbrev Own : Path → ℕ → Type 0
  Own p k = (p ≡ z → n ≤ k) × ((j : ℕ) (r : Path) → k ≤ j → p ++ j ∷ r ≡ z → ⊥)

  good_own : {spec : Specification} {c : Course} → Proper spec c → (p : Path) (k : ℕ) → Own p k → Good t P Q Any keep p spec c k
  good_own (proper_read i f) p k a = (tt, λ v. (a.0, good_own (f v) p k a))
  good_own (proper_write i q) p k a = (tt, a.0, good_own q p k a)
  good_own (proper_step q) p k a = good_own q p k a
  good_own (proper_create {child = child} {body = body} none may cov size b q) p k a =
      (λ n. a.0, every_any (touched_at_once child), λ y e kept. (proper_sole _ (bared_proper b 0) e (subst (λ z. allows_commuting z child ≡ true) e may), λ i. absurd (a.1 k [] (omega arith) i)), λ e. good_own b (p ++ k ∷ []) 0 (λ i. absurd (a.1 k [] (omega arith) i), λ j r le i. a.1 k (j ∷ r) (omega arith) (sym (append_assoc p (k ∷ []) (j ∷ r)) ∙ i)), good_own q p (suc k) (λ i. let le = a.0 i in omega arith, λ j r le i. a.1 j r (omega arith) i))
  good_own {spec} (proper_change {new = new} none m q) p k a = (every_any (made_touchable spec new), good_own q p k a)
  good_own proper_end p k a = λ n. a.0

  one_own : (u : Live Bare) (w : World) → Fit u → Own u.path u.part → Every Q w.waiting → Every P (step t u w).marks × Every Q (step t u w).world.waiting
  one_own u w f a h =
      left_good t P Q Any keep (sited u w) (every_any (settling u.doing.pending)) h (λ y i kept. (waits_sole u f y i kept, λ e. let le = a.0 e in let z : u.part ≡ 0 = (f.begun y i).0 in omega arith)) (λ y i c s. every_by (λ (m : Mark). (m.path ≡ u.path) × (m.children ≡ u.part)) P (λ m e k. let le = a.0 (sym e.0 ∙ k) in let q : m.children ≡ u.part = e.1 in omega arith) _ (flat_children f.proper y c u.path u.part u.doing.steps s)) (λ i c. good_own f.proper u.path u.part a)

  all_own : (us : List (Live Bare)) (w : World) → Every Fit us → Every (λ (u : Live Bare). Own u.path u.part) us → Every Q w.waiting → Every P (onwards t us w).marks × Every Q (onwards t us w).world.waiting
  all_own [] w f a h = (tt, h)
  all_own (u ∷ us) w f a h =
      let x = one_own u w f.0 a.0 h in
      let y = all_own us (step t u w).world f.1 a.1 x.1 in
      (every_append P (step t u w).marks _ x.0 y.0, y.1)

  pub own_later : (size : ℕ) (st : State) → Every Fit st.roll → Every (λ (u : Live Bare). Own u.path u.part) st.roll → Every (λ (m : Mark). m.path ≡ z → n ≤ m.children) (to_come t size st)
  own_later size st fits owns =
      let x = all_own st.roll (world_of size st.contents) fits owns tt in
      let y = all_good t P Q Any keep (numbers 0 size) (onwards t st.roll (world_of size st.contents)).world (every_any (numbers 0 size)) x.1 in
      every_append P (onwards t st.roll (world_of size st.contents)).marks _ x.0 y.0

-- each task of a roll is apart from every other
owns_all : (v : Live Bare) (us : List (Live Bare)) → Every (λ (u : Live Bare). Within u.path u.part v.path → (u.path ≡ v.path) × (v.part ≤ u.part)) us
    → Every (λ (u : Live Bare). (u.path ≡ v.path → v.part ≤ u.part) × ((j : ℕ) (r : Path) → u.part ≤ j → u.path ++ j ∷ r ≡ v.path → ⊥)) us
owns_all v [] h = tt
owns_all v (u ∷ us) h =
    ((λ e. (h.0 (record { rest = []; is = sym e ∙ sym (append-nil u.path); from = tt })).1, λ j r le e. let w = h.0 (record { rest = j ∷ r; is = sym e; from = le }) in not_longer u.path j r (e ∙ sym w.0)), owns_all v us h.1)

-- the only task of the roll with this path, or with it to make, is this one
pub alone_in : (b l : List (Live Bare)) (v : Live Bare) → Pairs Apart (b ++ (v ∷ l)) → Every (λ (u : Live Bare). (u.path ≡ v.path → v.part ≤ u.part) × ((j : ℕ) (r : Path) → u.part ≤ j → u.path ++ j ∷ r ≡ v.path → ⊥)) (b ++ (v ∷ l))
alone_in b l v far = owns_all v (b ++ (v ∷ l)) (go b far)
  where
    R : Live Bare → Type 0
    R u = Within u.path u.part v.path → (u.path ≡ v.path) × (v.part ≤ u.part)

    behind : (us : List (Live Bare)) → Every (Apart v) us → Every (λ (u : Live Bare). Within u.path u.part v.path → (u.path ≡ v.path) × (v.part ≤ u.part)) us
    behind [] a = tt
    behind (u ∷ us) a = (λ w. absurd (a.0 v.path (own_within v) w), behind us a.1)

    front : (u : Live Bare) (b : List (Live Bare)) → Every (Apart u) (b ++ (v ∷ l)) → Apart u v
    front u [] a = a.0
    front u (x ∷ b) a = front u b a.1

    go : (b : List (Live Bare)) → Pairs Apart (b ++ (v ∷ l)) → Every (λ (u : Live Bare). Within u.path u.part v.path → (u.path ≡ v.path) × (v.part ≤ u.part)) (b ++ (v ∷ l))
    go [] a = (λ w. (refl, omega arith), behind l a.0)
    go (u ∷ b) a = (λ w. absurd (front u b a.0 v.path w (own_within v)), go b a.1)
