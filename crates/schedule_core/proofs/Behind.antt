-- Where a task has an object, or may take it, nothing that is left stands before its place.
use Rattle.std.proofs.Common.{◌≡◌, ◌≢◌, ℕ, ◌<◌, ◌≤◌, suc, Bool, true, false, not, List, [], ◌∷◌, ◌++◌, map, refl, sym, ap, ◌∙◌, subst, Some, None, arith, append-nil, append_assoc, ◌⊎◌, inl, inr}
use Rattle.std.specs.Prelude.{nat_eq, nat_lt, if◌then◌else◌}
use Rattle.std.specs.List.{cons_option}
use Rattle.std.proofs.lemmas.Bool.{ltb-true, ltb-false}
use Rattle.std.proofs.lemmas.Bool.Decides.{eqb_tells}
use Rattle.jade_base.specs.Places.{is_before}
use Rattle.jade_meaning.specs.Specification.{Specification, numbers, commuting_on, allows_commuting}
use Rattle.jade_meaning.specs.Course.{Course}
use Rattle.jade_meaning.specs.Serial.{Path, Store, Mark, Deed, DidTurn, DidRead, DidWrite, DidCreate, DidEnd, serial, with_cell}
use Rattle.jade_meaning.specs.Turns.{Member, World, Ran, group, turn, below, settle_all, touched_at_once, made_touchable}
use Rattle.jade_meaning.specs.Laws.{Every}
use Rattle.jade_meaning.specs.Proper.{Proper, proper_read, proper_write, proper_step, proper_create, proper_change, proper_end}
use Rattle.schedule_core.specs.Core.{Bare, Live, writes_there}
use Rattle.schedule_core.specs.Works.{Wrote, Turned, works_on, work_on}
use Rattle.schedule_core.specs.Sound.{Fit, Apart, settling}
use Rattle.schedule_core.specs.Sorted.{key_le}
use Rattle.schedule_core.specs.Going.{world_of, to_come}
use Rattle.schedule_core.specs.Onwards.{onwards, sited, step}
use Rattle.schedule_core.specs.Unplaced.{State}
use Rattle.schedule_core.specs.More.{InOrder}
use Rattle.schedule_core.specs.Remains.{Behind as BehindWork}
use Rattle.schedule_core.proofs.Groups.{Spares, Sole, every_append, every_front, every_back}
use Rattle.schedule_core.proofs.Idle.{Any, every_any}
use Rattle.schedule_core.proofs.Running.{Good, all_good, every_by}
use Rattle.schedule_core.proofs.Idle.{left_good}
use Rattle.schedule_core.proofs.Soles.{proper_sole, bared_proper}
use Rattle.schedule_core.proofs.Front.{waits_sole}
use Rattle.schedule_core.proofs.Frame.{onwards_both, fronts_quiet}
use Rattle.schedule_core.proofs.Keyed.{le_is}
use Rattle.schedule_core.proofs.Order.{Earlier, earlier, child_before}
use Rattle.schedule_core.proofs.Keys.{NotFrom, lt_at, eq_at}
use Rattle.schedule_core.proofs.Unborn.{own_within}

-- no part of a task from child k on, or of what it makes, has a key before this one
abbrev pub BehindFrom : Path → Path → ℕ → Type 0
BehindFrom κ p k = (j : ℕ) (r : Path) → k ≤ j → is_before (p ++ j ∷ r) κ ≡ false

no_before : (a b : Path) → key_le b a ≡ true → is_before a b ≡ false
no_before a b h = back (is_before a b) (sym (le_is b a) ∙ h)
  where
    back : (x : Bool) → not x ≡ true → x ≡ false
    back true h = absurd (cc)
    back false h = refl

own_le : (p : Path) (n j : ℕ) (r : Path) → n ≤ j → key_le (p ++ n ∷ []) (p ++ j ∷ r) ≡ true
own_le [] n j r le = go (eqb_tells n j)
  where
    go : ((nat_eq n j ≡ true) × (n ≡ j)) ⊎ ((nat_eq n j ≡ false) × (n ≢ j)) → (if nat_eq n j then true else nat_lt n j) ≡ true
    go (inl e) = eq_at n j true (nat_lt n j) e.1
    go (inr e) = lt_at n j true (let x : n ≢ j = e.1 in omega arith)
own_le (i ∷ p) n j r le = eq_at i i _ (nat_lt i i) refl ∙ own_le p n j r le

later_le : (u v : Path) (ku kv j : ℕ) (r : Path) → Earlier u v → NotFrom v kv u → kv ≤ j → key_le (u ++ ku ∷ []) (v ++ j ∷ r) ≡ true
later_le [] v ku kv j r e n le = absurd e
later_le (i ∷ u) [] ku kv j r e n le = go (nat_lt i kv) refl
  where
    go : (b : Bool) → nat_lt i kv ≡ b → (if nat_eq i j then key_le (u ++ ku ∷ []) r else nat_lt i j) ≡ true
    go true h = let lt : i < kv = ltb-true i kv h in lt_at i j _ (omega arith)
    go false h = absurd (n (i ∷ u) refl (ltb-false i kv h))
later_le (i ∷ u) (x ∷ v) ku kv j r (inl lt) n le = lt_at i x _ lt
later_le (i ∷ u) (x ∷ v) ku kv j r (inr e) n le =
    eq_at i x _ (nat_lt i x) e.0 ∙ later_le u v ku kv j r e.1 (λ q is f. n q (ap (λ z. z ∷ u) e.0 ∙ ap (λ z. x ∷ z) is) f) le

pub own_behind : (p : Path) (n : ℕ) → BehindFrom (p ++ n ∷ []) p n
own_behind p n j r le = no_before (p ++ j ∷ r) (p ++ n ∷ []) (own_le p n j r le)

pub later_behind : (u v : Path) (ku kv : ℕ) → Earlier u v → NotFrom v kv u → BehindFrom (u ++ ku ∷ []) v kv
later_behind u v ku kv e n j r le = no_before (v ++ j ∷ r) (u ++ ku ∷ []) (later_le u v ku kv j r e n le)

-- the marks of a body that makes no task
pub flat_children : {spec : Specification} {c : Course} → Proper spec c → (o : ℕ) → commuting_on spec ≡ Some o → (p : Path) (k n : ℕ) (s : Store)
    → Every (λ (m : Mark). (m.path ≡ p) × (m.children ≡ k)) (map (below p) (serial c k n s))
flat_children (proper_read i f) o e p k n s = ((append-nil p, refl), flat_children (f _) o e p k n s)
flat_children (proper_write {o = y} {c = c} {v = v} i q) o e p k n s = ((append-nil p, refl), flat_children q o e p k n (with_cell s y c v))
flat_children (proper_step q) o e p k n s = flat_children q o e p k (suc n) s
flat_children (proper_create none a b d f g) o e p k n s = absurd (let z : Some o ≡ None = sym e ∙ none in cc)
flat_children (proper_change none a b) o e p k n s = absurd (let z : Some o ≡ None = sym e ∙ none in cc)
flat_children proper_end o e p k n s = ((append-nil p, refl), tt)

module _ (t : ℕ → List Path) (o : ℕ) (κ : Path) where
  abbrev P : Mark → Type 0
  P m = Spares o m.deed ⊎ (is_before (m.path ++ m.children ∷ []) κ ≡ false)

  abbrev Q : Member → Type 0
  Q q = Sole q × ((q.object ≢ o) ⊎ ((k : ℕ) → is_before (q.path ++ k ∷ []) κ ≡ false))

  keep : (q : Member) (s : Store) → Q q → Any q.object → Every P (turn q s)
  keep q s h a = go h.1
    where
      go : (q.object ≢ o) ⊎ ((k : ℕ) → is_before (q.path ++ k ∷ []) κ ≡ false) → Every P (turn q s)
      go (inl ne) = every_by (λ (m : Mark). Spares o m.deed) P (λ m i. inl i) (turn q s) (h.0.0 s o ne)
      go (inr b) = every_by (λ (m : Mark). m.path ≡ q.path) P (λ m i. inr (ap (λ z. is_before (z ++ m.children ∷ []) κ) i ∙ b m.children)) (turn q s) (h.0.1 s)

  good_behind : {spec : Specification} {c : Course} → Proper spec c → (p : Path) (k : ℕ) → BehindFrom κ p k → Good t P Q Any keep p spec c k
  good_behind (proper_read i f) p k a = (tt, λ v. (inl tt, good_behind (f v) p k a))
  good_behind (proper_write i q) p k a = (tt, inr (a k [] (omega arith)), good_behind q p k a)
  good_behind (proper_step q) p k a = good_behind q p k a
  good_behind (proper_create {child = child} {body = body} none may cov size b q) p k a =
      (λ n. inl tt, every_any (touched_at_once child), λ y e kept. (proper_sole _ (bared_proper b 0) e (subst (λ z. allows_commuting z child ≡ true) e may), inr (λ j. ap (λ z. is_before z κ) (append_assoc p (k ∷ []) (j ∷ [])) ∙ a k (j ∷ []) (omega arith))), λ e. good_behind b (p ++ k ∷ []) 0 (λ j r le. ap (λ z. is_before z κ) (append_assoc p (k ∷ []) (j ∷ r)) ∙ a k (j ∷ r) (omega arith)), good_behind q p (suc k) (λ j r le. a j r (omega arith)))
  good_behind {spec} (proper_change {new = new} none m q) p k a = (every_any (made_touchable spec new), good_behind q p k a)
  good_behind proper_end p k a = λ n. inl tt

  one_behind : (u : Live Bare) (w : World) → Fit u → BehindFrom κ u.path u.part → Every Q w.waiting → Every P (step t u w).marks × Every Q (step t u w).world.waiting
  one_behind u w f a h =
      left_good t P Q Any keep (sited u w) (every_any (settling u.doing.pending)) h (λ y i kept. (waits_sole u f y i kept, inr (λ k. let z : u.part ≡ 0 = (f.begun y i).0 in a k [] (omega arith)))) (λ y i c s. every_by (λ (m : Mark). (m.path ≡ u.path) × (m.children ≡ u.part)) P (λ m e. inr (ap (λ z. is_before (z ++ m.children ∷ []) κ) e.0 ∙ ap (λ k. is_before (u.path ++ k ∷ []) κ) e.1 ∙ a u.part [] (omega arith))) _ (flat_children f.proper y c u.path u.part u.doing.steps s)) (λ i c. good_behind f.proper u.path u.part a)

  all_behind : (us : List (Live Bare)) (w : World) → Every Fit us → Every (λ (u : Live Bare). BehindFrom κ u.path u.part) us → Every Q w.waiting → Every P (onwards t us w).marks × Every Q (onwards t us w).world.waiting
  all_behind [] w f a h = (tt, h)
  all_behind (u ∷ us) w f a h =
      let x = one_behind u w f.0 a.0 h in
      let y = all_behind us (step t u w).world f.1 a.1 x.1 in
      (every_append P (step t u w).marks _ x.0 y.0, y.1)

-- a task that stands later makes nothing before
later_from : (u : Live Bare) (us : List (Live Bare)) → Every (Apart u) us → Every (InOrder u) us → Every (λ (v : Live Bare). BehindFrom (u.path ++ u.part ∷ []) v.path v.part) us
later_from u [] a e = tt
later_from u (v ∷ us) a e =
    (later_behind u.path v.path u.part v.part (earlier u.path v.path e.0) (λ q is f. a.0 u.path (own_within u) (record { rest = q; is = is; from = f })), later_from u us a.1 e.1)

-- nobody waits there, and those who wait elsewhere work elsewhere
waits_elsewhere : (o : ℕ) (κ : Path) (ms : List Member) → Every Sole ms → group o ms ≡ [] → Every (λ q. Sole q × ((q.object ≢ o) ⊎ ((k : ℕ) → is_before (q.path ++ k ∷ []) κ ≡ false))) ms
waits_elsewhere o κ [] h g = tt
waits_elsewhere o κ (q ∷ ms) h g = go (eqb_tells q.object o) g (λ k. waits_elsewhere o κ ms h.1 k)
  where
    go : ((nat_eq q.object o ≡ true) × (q.object ≡ o)) ⊎ ((nat_eq q.object o ≡ false) × (q.object ≢ o)) → (if nat_eq q.object o then q ∷ group o ms else group o ms) ≡ []
        → (group o ms ≡ [] → Every (λ q. Sole q × ((q.object ≢ o) ⊎ ((k : ℕ) → is_before (q.path ++ k ∷ []) κ ≡ false))) ms)
        → Every (λ q. Sole q × ((q.object ≢ o) ⊎ ((k : ℕ) → is_before (q.path ++ k ∷ []) κ ≡ false))) (q ∷ ms)
    go (inl e) g f = absurd (let z : q ∷ group o ms ≡ [] = sym (ap (λ b. if b then q ∷ group o ms else group o ms) e.0) ∙ g in cc)
    go (inr e) g f = ((h.0, inl e.1), f (sym (ap (λ b. if b then q ∷ group o ms else group o ms) e.0) ∙ g))

-- nor before its next child
pub later_child : (u : Live Bare) (us : List (Live Bare)) → Every (Apart u) us → Every (InOrder u) us
    → Every (λ (v : Live Bare). BehindFrom ((u.path ++ u.part ∷ []) ++ 0 ∷ []) v.path v.part) us
later_child u [] a e = tt
later_child u (v ∷ us) a e = (
  later_behind (u.path ++ u.part ∷ []) v.path 0 v.part (child_before u.path v.path u.part (earlier u.path v.path e.0))
      (λ q is f. a.0 (u.path ++ u.part ∷ []) (record { rest = u.part ∷ []; is = refl; from = omega arith }) (record { rest = q; is = is; from = f })),
  later_child u us a.1 e.1,
)

-- all that is left, where nobody before some tasks may change the object, and these make nothing before a key
pub left_from_key : (t : ℕ → List Path) (size o : ℕ) (st : State) (κ : Path) (b us : List (Live Bare)) → st.roll ≡ b ++ us → Every Fit (b ++ us) → Every (λ s. writes_there o s ≡ false) b
    → Every (λ (v : Live Bare). BehindFrom κ v.path v.part) us → Every (λ (m : Mark). Spares o m.deed ⊎ (is_before (m.path ++ m.children ∷ []) κ ≡ false)) (to_come t size st)
left_from_key t size o st κ b us is fits calm later =
    let w0 = world_of size st.contents in
    let front = onwards t b w0 in
    let rest = onwards t us front.world in
    let ends = settle_all t (numbers 0 size) rest.world in
    let PP : Mark → Type 0 = λ m. Spares o m.deed ⊎ (is_before (m.path ++ m.children ∷ []) κ ≡ false) in
    let quiet = fronts_quiet t o b w0 (every_front Fit b us fits) calm refl tt in
    let mine = all_behind t o κ us front.world (every_back Fit b us fits) later (waits_elsewhere o κ front.world.waiting quiet.2 quiet.1) in
    let over = all_good t (P t o κ) (Q t o κ) Any (keep t o κ) (numbers 0 size) rest.world (every_any (numbers 0 size)) mine.1 in
    let whole : to_come t size st ≡ front.marks ++ (rest.marks ++ ends.marks) = ap (λ us. (onwards t us w0).marks ++ (settle_all t (numbers 0 size) (onwards t us w0).world).marks) is
    ∙ ap (λ (r : Ran). r.marks ++ (settle_all t (numbers 0 size) r.world).marks) (onwards_both t b us w0) ∙ append_assoc front.marks rest.marks ends.marks in
    subst (Every PP) (sym whole) (every_append PP front.marks (rest.marks ++ ends.marks) (every_by (λ (m : Mark). Spares o m.deed) PP (λ m i. inl i) front.marks quiet.0)
    (every_append PP rest.marks ends.marks mine.0 over.0))

-- where nobody before a task may
pub left_behind : (t : ℕ → List Path) (size o : ℕ) (st : State) (b l : List (Live Bare)) (u : Live Bare) → st.roll ≡ b ++ (u ∷ l) → Every Fit (b ++ (u ∷ l)) → Every (λ s. writes_there o s ≡ false) b
    → Every (Apart u) l → Every (InOrder u) l → Every (λ (m : Mark). Spares o m.deed ⊎ (is_before (m.path ++ m.children ∷ []) (u.path ++ u.part ∷ []) ≡ false)) (to_come t size st)
left_behind t size o st b l u is fits calm far order =
    left_from_key t size o st (u.path ++ u.part ∷ []) b (u ∷ l) is fits calm (own_behind u.path u.part, later_from u l far order)

-- and so no work that is left
pub works_behind : (o : ℕ) (p : Path) (n : ℕ) (ms : List Mark) → Every (λ (m : Mark). Spares o m.deed ⊎ (is_before (m.path ++ m.children ∷ []) (p ++ n ∷ []) ≡ false)) ms
    → Every (BehindWork p n) (works_on o ms)
works_behind o p n [] h = tt
works_behind o p n (m ∷ ms) h = go m.deed h.0 (works_behind o p n ms h.1)
  where
    go : (d : Deed) → Spares o d ⊎ (is_before (m.path ++ m.children ∷ []) (p ++ n ∷ []) ≡ false) → Every (BehindWork p n) (works_on o ms)
        → Every (BehindWork p n) (cons_option (work_on o d m.path m.children) (works_on o ms))
    go (DidWrite x c v) (inr e) k = by (nat_eq x o)
      where
        by : (b : Bool) → Every (BehindWork p n) (cons_option (if b then Some (Wrote m.path m.children c v) else None) (works_on o ms))
        by true = (e, k)
        by false = k
    go (DidWrite x c v) (inl e) k = by (eqb_tells x o)
      where
        by : ((nat_eq x o ≡ true) × (x ≡ o)) ⊎ ((nat_eq x o ≡ false) × (x ≢ o)) → Every (BehindWork p n) (cons_option (if nat_eq x o then Some (Wrote m.path m.children c v) else None) (works_on o ms))
        by (inl i) = absurd (e i.1)
        by (inr i) = subst (λ b. Every (BehindWork p n) (cons_option (if b then Some (Wrote m.path m.children c v) else None) (works_on o ms))) (sym i.0) k
    go (DidTurn x) e k = by (nat_eq x o)
      where
        by : (b : Bool) → Every (BehindWork p n) (cons_option (if b then Some (Turned m.path) else None) (works_on o ms))
        by true = (tt, k)
        by false = k
    go (DidRead x c v) e k = k
    go (DidCreate x y) e k = k
    go (DidEnd x y) e k = k
