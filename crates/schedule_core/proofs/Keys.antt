-- Keys and places of tasks.
use Rattle.std.proofs.Common.{◌≡◌, ◌≢◌, ℕ, ◌<◌, ◌≤◌, zero, suc, Bool, true, false, not, [], ◌∷◌, ◌++◌, refl, sym, ap, ◌∙◌, arith, ◌⊎◌, inl, inr}
use Rattle.std.specs.Prelude.{nat_eq, nat_lt, if◌then◌else◌}
use Rattle.std.proofs.lemmas.Bool.{ltb-true, ltb-false, lt-ltb, eq-eqb, ne_eqb}
use Rattle.std.proofs.lemmas.Bool.Decides.{eqb_tells}
use Rattle.jade_base.specs.Places.{is_before}
use Rattle.jade_meaning.specs.Serial.{Path}
use Rattle.schedule_core.specs.Sorted.{key_le}
use Rattle.schedule_core.specs.Sound.{From}
use Rattle.schedule_core.proofs.Keyed.{le_is}
use Rattle.schedule_core.proofs.Order.{Earlier}

abbrev pub NotFrom : Path → ℕ → Path → Type 0
NotFrom path k p = (q : Path) → p ≡ path ++ q → From k q → ⊥

pub eq_at : (i j : ℕ) (x y : Bool) → i ≡ j → (if nat_eq i j then x else y) ≡ x
eq_at i j x y e = ap (λ b. if b then x else y) (eq-eqb i j e)

ne_at : (i j : ℕ) (x y : Bool) → (i ≡ j → ⊥) → (if nat_eq i j then x else y) ≡ y
ne_at i j x y e = ap (λ b. if b then x else y) (ne_eqb i j e)

pub lt_at : (i j : ℕ) (x : Bool) → i < j → (if nat_eq i j then x else nat_lt i j) ≡ true
lt_at i j x lt = ne_at i j x (nat_lt i j) (λ e. absurd (let k : i ≡ j = e in omega arith)) ∙ lt-ltb i j lt

pub gt_at : (i j : ℕ) (x : Bool) → j < i → (if nat_eq i j then x else nat_lt i j) ≡ false
gt_at i j x lt = ne_at i j x (nat_lt i j) (λ e. absurd (let k : i ≡ j = e in omega arith)) ∙ go (nat_lt i j) refl
  where
    go : (b : Bool) → nat_lt i j ≡ b → nat_lt i j ≡ false
    go true e = absurd (let k : i < j = ltb-true i j e in omega arith)
    go false e = e

-- the key of a task that stands earlier is no greater
le_keys : (u v : Path) (ku kv : ℕ) → Earlier u v → NotFrom v kv u → key_le (u ++ ku ∷ []) (v ++ kv ∷ []) ≡ true
le_keys [] v ku kv e n = absurd e
le_keys (i ∷ u) [] ku kv e n = go (nat_lt i kv) refl
  where
    go : (b : Bool) → nat_lt i kv ≡ b → (if nat_eq i kv then key_le (u ++ ku ∷ []) [] else nat_lt i kv) ≡ true
    go true h = lt_at i kv _ (ltb-true i kv h)
    go false h = absurd (n (i ∷ u) refl (ltb-false i kv h))
le_keys (i ∷ u) (j ∷ v) ku kv (inl lt) n = lt_at i j _ lt
le_keys (i ∷ u) (j ∷ v) ku kv (inr e) n =
    eq_at i j _ (nat_lt i j) e.0 ∙ le_keys u v ku kv e.1 (λ q is f. n q (ap (λ x. x ∷ u) e.0 ∙ ap (λ z. j ∷ z) is) f)

-- and that of the later one is greater
gt_keys : (u v : Path) (ku kv : ℕ) → Earlier u v → NotFrom v kv u → key_le (v ++ kv ∷ []) (u ++ ku ∷ []) ≡ false
gt_keys [] v ku kv e n = absurd e
gt_keys (i ∷ u) [] ku kv e n = go (nat_lt i kv) refl
  where
    go : (b : Bool) → nat_lt i kv ≡ b → (if nat_eq kv i then true else nat_lt kv i) ≡ false
    go true h = gt_at kv i _ (ltb-true i kv h)
    go false h = absurd (n (i ∷ u) refl (ltb-false i kv h))
gt_keys (i ∷ u) (j ∷ v) ku kv (inl lt) n = gt_at j i _ lt
gt_keys (i ∷ u) (j ∷ v) ku kv (inr e) n =
    eq_at j i _ (nat_lt j i) (sym e.0) ∙ gt_keys u v ku kv e.1 (λ q is f. n q (ap (λ x. x ∷ u) e.0 ∙ ap (λ z. j ∷ z) is) f)

pub not_before : (u v : Path) (ku kv : ℕ) → Earlier u v → NotFrom v kv u → is_before (v ++ kv ∷ []) (u ++ ku ∷ []) ≡ false
not_before u v ku kv e n = back (is_before (v ++ kv ∷ []) (u ++ ku ∷ [])) (sym (le_is (u ++ ku ∷ []) (v ++ kv ∷ [])) ∙ le_keys u v ku kv e n)
  where
    back : (b : Bool) → not b ≡ true → b ≡ false
    back true h = absurd (cc)
    back false h = refl

pub yes_before : (u v : Path) (ku kv : ℕ) → Earlier u v → NotFrom v kv u → is_before (u ++ ku ∷ []) (v ++ kv ∷ []) ≡ true
yes_before u v ku kv e n = back (is_before (u ++ ku ∷ []) (v ++ kv ∷ [])) (sym (le_is (v ++ kv ∷ []) (u ++ ku ∷ [])) ∙ gt_keys u v ku kv e n)
  where
    back : (b : Bool) → not b ≡ false → b ≡ true
    back true h = refl
    back false h = absurd (cc)

-- parts of one task
pub own_before : (p : Path) (k n : ℕ) → k < n → is_before (p ++ k ∷ []) (p ++ n ∷ []) ≡ true
own_before p k n lt = back (is_before (p ++ k ∷ []) (p ++ n ∷ [])) (sym (le_is (p ++ n ∷ []) (p ++ k ∷ [])) ∙ go p)
  where
    back : (b : Bool) → not b ≡ false → b ≡ true
    back true h = refl
    back false h = absurd (cc)

    go : (p : Path) → key_le (p ++ n ∷ []) (p ++ k ∷ []) ≡ false
    go [] = gt_at n k _ lt
    go (i ∷ p) = eq_at i i _ (nat_lt i i) refl ∙ go p

-- a part before the child that it creates
pub part_before : (p : Path) (k n : ℕ) → k ≤ n → is_before (p ++ k ∷ []) ((p ++ n ∷ []) ++ 0 ∷ []) ≡ true
part_before p k n le = back (is_before (p ++ k ∷ []) ((p ++ n ∷ []) ++ 0 ∷ [])) (sym (le_is ((p ++ n ∷ []) ++ 0 ∷ []) (p ++ k ∷ [])) ∙ go p)
  where
    back : (b : Bool) → not b ≡ false → b ≡ true
    back true h = refl
    back false h = absurd (cc)

    first : (b : ((nat_eq n k ≡ true) × (n ≡ k)) ⊎ ((nat_eq n k ≡ false) × (n ≢ k))) → (if nat_eq n k then false else nat_lt n k) ≡ false
    first (inl e) = eq_at n k false (nat_lt n k) e.1
    first (inr e) = gt_at n k false (let x : n ≢ k = e.1 in omega arith)

    go : (p : Path) → key_le ((p ++ n ∷ []) ++ 0 ∷ []) (p ++ k ∷ []) ≡ false
    go [] = first (eqb_tells n k)
    go (i ∷ p) = eq_at i i _ (nat_lt i i) refl ∙ go p

-- what stands between a task's part and the next is of the child made there
pub record Between (p : Path) (n : ℕ) (x : Path) : Type 0 where
  pub rest : Path
  pub is : x ≡ p ++ n ∷ rest

between_le : (p : Path) (n : ℕ) (x : Path) → key_le (p ++ n ∷ []) x ≡ true → key_le (p ++ suc n ∷ []) x ≡ false → Between p n x
between_le [] n [] h g = absurd (cc)
between_le [] n (x ∷ s) h g = go (eqb_tells n x)
  where
    go : ((nat_eq n x ≡ true) × (n ≡ x)) ⊎ ((nat_eq n x ≡ false) × (n ≢ x)) → Between [] n (x ∷ s)
    go (inl e) = record { rest = s; is = ap (λ z. z ∷ s) (sym e.1) }
    go (inr e) =
        let lt : n < x = ltb-true n x (sym (ap (λ b. if b then true else nat_lt n x) e.0) ∙ h) in
        absurd (let k = at (eqb_tells (suc n) x) lt in let z : false ≡ true = sym g ∙ k in cc)
      where
        at : ((nat_eq (suc n) x ≡ true) × (suc n ≡ x)) ⊎ ((nat_eq (suc n) x ≡ false) × (suc n ≢ x)) → n < x → (if nat_eq (suc n) x then true else nat_lt (suc n) x) ≡ true
        at (inl i) lt = eq_at (suc n) x true (nat_lt (suc n) x) i.1
        at (inr i) lt = lt_at (suc n) x true (let y : suc n ≢ x = i.1 in omega arith)
between_le (i ∷ p) n [] h g = absurd (cc)
between_le (i ∷ p) n (x ∷ s) h g = go (eqb_tells i x) (λ a b. between_le p n s a b)
  where
    go : ((nat_eq i x ≡ true) × (i ≡ x)) ⊎ ((nat_eq i x ≡ false) × (i ≢ x)) → (key_le (p ++ n ∷ []) s ≡ true → key_le (p ++ suc n ∷ []) s ≡ false → Between p n s) → Between (i ∷ p) n (x ∷ s)
    go (inl e) f =
        let r = f (sym (ap (λ b. if b then key_le (p ++ n ∷ []) s else nat_lt i x) e.0) ∙ h) (sym (ap (λ b. if b then key_le (p ++ suc n ∷ []) s else nat_lt i x) e.0) ∙ g) in
        record { rest = r.rest; is = ap (λ z. x ∷ z) r.is ∙ ap (λ z. z ∷ (p ++ n ∷ r.rest)) (sym e.1) }
    go (inr e) f =
        absurd (let a : nat_lt i x ≡ true = sym (ap (λ b. if b then key_le (p ++ n ∷ []) s else nat_lt i x) e.0) ∙ h in let b : nat_lt i x ≡ false = sym (ap (λ b. if b then key_le (p ++ suc n ∷ []) s else nat_lt i x) e.0) ∙ g in let z : true ≡ false = sym a ∙ b in cc)

flip_true : (b : Bool) → b ≡ false → not b ≡ true
flip_true b e = ap not e

pub between : (p : Path) (n : ℕ) (x : Path) → is_before x (p ++ n ∷ []) ≡ false → is_before x (p ++ suc n ∷ []) ≡ true → Between p n x
between p n x h g = between_le p n x (le_is (p ++ n ∷ []) x ∙ ap not h) (le_is (p ++ suc n ∷ []) x ∙ ap not g)

-- between a part and the child that it creates there is nothing else
pub nothing_between : (p : Path) (n : ℕ) (x : Path) → is_before x (p ++ n ∷ []) ≡ false → is_before x ((p ++ n ∷ []) ++ 0 ∷ []) ≡ true → x ≡ p ++ n ∷ []
nothing_between p n x h g = go p x (le_is (p ++ n ∷ []) x ∙ ap not h) (le_is ((p ++ n ∷ []) ++ 0 ∷ []) x ∙ ap not g)
  where
    go : (p x : Path) → key_le (p ++ n ∷ []) x ≡ true → key_le ((p ++ n ∷ []) ++ 0 ∷ []) x ≡ false → x ≡ p ++ n ∷ []
    go [] [] h g = absurd (cc)
    go [] (x ∷ s) h g = by (eqb_tells n x)
      where
        rest : (s : Path) → key_le (0 ∷ []) s ≡ false → s ≡ []
        rest [] h = refl
        rest (zero ∷ s) h = absurd (let z : true ≡ false = sym (eq_at 0 0 true (nat_lt 0 0) refl) ∙ h in cc)
        rest (suc y ∷ s) h = absurd (let z : true ≡ false = sym (lt_at 0 (suc y) true (omega arith)) ∙ h in cc)

        by : ((nat_eq n x ≡ true) × (n ≡ x)) ⊎ ((nat_eq n x ≡ false) × (n ≢ x)) → x ∷ s ≡ n ∷ []
        by (inl e) = ap (λ z. z ∷ s) (sym e.1) ∙ ap (λ z. n ∷ z) (rest s (sym (ap (λ b. if b then key_le (0 ∷ []) s else nat_lt n x) e.0) ∙ g))
        by (inr e) = absurd (let a : nat_lt n x ≡ true = sym (ap (λ b. if b then true else nat_lt n x) e.0) ∙ h in let b : nat_lt n x ≡ false = sym (ap (λ b. if b then key_le (0 ∷ []) s else nat_lt n x) e.0) ∙ g in let z : true ≡ false = sym a ∙ b in cc)
    go (i ∷ p) [] h g = absurd (cc)
    go (i ∷ p) (x ∷ s) h g = by (eqb_tells i x) (λ a b. go p s a b)
      where
        by : ((nat_eq i x ≡ true) × (i ≡ x)) ⊎ ((nat_eq i x ≡ false) × (i ≢ x)) → (key_le (p ++ n ∷ []) s ≡ true → key_le ((p ++ n ∷ []) ++ 0 ∷ []) s ≡ false → s ≡ p ++ n ∷ []) → x ∷ s ≡ i ∷ (p ++ n ∷ [])
        by (inl e) f = ap (λ z. z ∷ s) (sym e.1) ∙ ap (λ z. i ∷ z) (f (sym (ap (λ b. if b then key_le (p ++ n ∷ []) s else nat_lt i x) e.0) ∙ h) (sym (ap (λ b. if b then key_le ((p ++ n ∷ []) ++ 0 ∷ []) s else nat_lt i x) e.0) ∙ g))
        by (inr e) f = absurd (let a : nat_lt i x ≡ true = sym (ap (λ b. if b then key_le (p ++ n ∷ []) s else nat_lt i x) e.0) ∙ h in let b : nat_lt i x ≡ false = sym (ap (λ b. if b then key_le ((p ++ n ∷ []) ++ 0 ∷ []) s else nat_lt i x) e.0) ∙ g in let z : true ≡ false = sym a ∙ b in cc)
