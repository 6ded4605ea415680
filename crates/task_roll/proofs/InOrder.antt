-- The serial order of tasks is strict and total, and what stands in it is searched by halves.
use Rattle.std.proofs.Common.{◌≡◌, ℕ, zero, suc, ◌<◌, ◌≤◌, Bool, true, false, ◌&&◌, ◌||◌, List, [], ◌∷◌, length, map, drop, refl, sym, ap, ◌∙◌, subst, arith}
use Rattle.std.specs.Prelude.{min, nat_eq, nat_lt, slice_index_or, if◌then◌else◌}
use Rattle.std.proofs.lemmas.Bool.Decides.{nat_tests}
use Rattle.jade_base.specs.Places.{same_path}
use Rattle.task_roll.specs.Order.{stands_before, before_all, is_ordered, rank, place_among, entered, without, is_among, fits, fits_at}

true-not-false : true ≡ false → ⊥
true-not-false q = absurd (cc)

and-left : (a b : Bool) → a && b ≡ true → a ≡ true
and-left true b h = refl
and-left false b h = absurd (cc)

and-right : (a b : Bool) → a && b ≡ true → b ≡ true
and-right true b h = h
and-right false b h = absurd (cc)

and-both : (a b : Bool) → a ≡ true → b ≡ true → a && b ≡ true
and-both true b h g = g
and-both false b h g = absurd (cc)

-- one path is the other
pub same-is : (p q : List ℕ) → same_path p q ≡ true → p ≡ q
same-is [] [] h = refl
same-is [] (j ∷ q) h = absurd (cc)
same-is (i ∷ p) [] h = absurd (cc)
same-is (i ∷ p) (j ∷ q) h =
    let e : i ≡ j = heads i j (and-left (nat_eq i j) (same_path p q) h) in
    ap (λ k. k ∷ p) e ∙ ap (λ r. j ∷ r) (same-is p q (and-right (nat_eq i j) (same_path p q) h))
  where
    heads : (i j : ℕ) → nat_eq i j ≡ true → i ≡ j
    heads i j h = grind (arith, nat_tests)

pub same-refl : (p : List ℕ) → same_path p p ≡ true
same-refl [] = refl
same-refl (i ∷ p) = and-both (nat_eq i i) (same_path p p) (own i) (same-refl p)
  where
    own : (i : ℕ) → nat_eq i i ≡ true
    own i = grind (arith, nat_tests)

-- of two lists of different lengths none is the other
pub lengths-differ : (p q : List ℕ) → (length p ≡ length q → ⊥) → same_path p q ≡ false
lengths-differ [] [] f = absurd (f refl)
lengths-differ [] (j ∷ q) f = refl
lengths-differ (i ∷ p) [] f = refl
lengths-differ (i ∷ p) (j ∷ q) f = tail (nat_eq i j) (same_path p q) (lengths-differ p q (λ e. f (ap suc e)))
  where
    tail : (a b : Bool) → b ≡ false → a && b ≡ false
    tail true b h = h
    tail false b h = refl

-- nothing is left of two lists of one length behind their last numbers
pub all-same : (p q : List ℕ) (n : ℕ) → length p ≤ n → length p ≡ length q → same_path (drop n p) (drop n q) ≡ true
all-same [] [] zero h e = refl
all-same [] [] (suc n) h e = refl
all-same [] (j ∷ q) n h e = absurd (omega (arith, e))
all-same (i ∷ p) [] n h e = absurd (omega (arith, e))
all-same (i ∷ p) (j ∷ q) zero h e = absurd (omega (arith, h))
all-same (i ∷ p) (j ∷ q) (suc n) h e = all-same p q n (omega (arith, h)) (omega (arith, e))

-- what stands before is another
pub before-other : (p q : List ℕ) → stands_before p q ≡ true → same_path q p ≡ false
before-other [] q h = absurd (cc)
before-other (i ∷ p) [] h = refl
before-other (i ∷ p) (j ∷ q) h = head i j (stands_before p q) (same_path q p) (before-other p q) h
  where
    head : (i j : ℕ) (b s : Bool) → (b ≡ true → s ≡ false) → nat_lt i j || (nat_eq i j && b) ≡ true → nat_eq j i && s ≡ false
    head i j true true f h = absurd (true-not-false (f refl))
    head i j true false f h = grind (arith, nat_tests)
    head i j false true f h = grind (arith, nat_tests)
    head i j false false f h = grind (arith, nat_tests)

pub before-trans : (p q r : List ℕ) → stands_before p q ≡ true → stands_before q r ≡ true → stands_before p r ≡ true
before-trans [] q r h g = absurd (cc)
before-trans (i ∷ p) [] r h g = absurd (cc)
before-trans (i ∷ p) (j ∷ q) [] h g = refl
before-trans (i ∷ p) (j ∷ q) (k ∷ r) h g = head i j k (stands_before p q) (stands_before q r) (stands_before p r) (before-trans p q r) h g
  where
    head : (i j k : ℕ) (a b c : Bool) → (a ≡ true → b ≡ true → c ≡ true) → nat_lt i j || (nat_eq i j && a) ≡ true → nat_lt j k || (nat_eq j k && b) ≡ true →
        nat_lt i k || (nat_eq i k && c) ≡ true
    head i j k true true true f h g = grind (arith, nat_tests)
    head i j k true true false f h g = absurd (let x = f refl refl in cc)
    head i j k true false c f h g = elim c [ true ↦ grind (arith, nat_tests) | false ↦ grind (arith, nat_tests) ]
    head i j k false b c f h g = elim b [
      | true ↦ elim c [ true ↦ grind (arith, nat_tests) | false ↦ grind (arith, nat_tests) ]
      | false ↦
          elim c [ true ↦ grind (arith, nat_tests) | false ↦ grind (arith, nat_tests) ]
    ]

-- of two others one stands before the other
pub before-total : (p q : List ℕ) → stands_before q p ≡ false → same_path p q ≡ false → stands_before p q ≡ true
before-total [] [] h g = absurd (cc)
before-total [] (j ∷ q) h g = absurd (cc)
before-total (i ∷ p) [] h g = refl
before-total (i ∷ p) (j ∷ q) h g = head i j (stands_before q p) (same_path p q) (stands_before p q) (before-total p q) h g
  where
    head : (i j : ℕ) (a s b : Bool) → (a ≡ false → s ≡ false → b ≡ true) → nat_lt j i || (nat_eq j i && a) ≡ false → nat_eq i j && s ≡ false →
        nat_lt i j || (nat_eq i j && b) ≡ true
    head i j false false true f h g = grind (arith, nat_tests)
    head i j false false false f h g = absurd (let x = f refl refl in cc)
    head i j true s true f h g = elim s [ true ↦ grind (arith, nat_tests) | false ↦ grind (arith, nat_tests) ]
    head i j true s false f h g = elim s [ true ↦ grind (arith, nat_tests) | false ↦ grind (arith, nat_tests) ]
    head i j false true b f h g = elim b [ true ↦ grind (arith, nat_tests) | false ↦ grind (arith, nat_tests) ]

-- what stands before the first of some stands before them all
pub further : (p q : List ℕ) (qs : List (List ℕ)) → stands_before p q ≡ true → before_all q qs ≡ true → before_all p qs ≡ true
further p q [] h g = refl
further p q (r ∷ qs) h g =
    and-both (stands_before p r) (before_all p qs) (before-trans p q r h (and-left (stands_before q r) (before_all q qs) g))
    (further p q qs h (and-right (stands_before q r) (before_all q qs) g))

-- rows by the paths of their tasks
module _ {X : Type 0} (f : X → List ℕ) where
  -- a row of those that a task stands before
  pub at-index : (p : List ℕ) (es : List X) (n : ℕ) (e : X) → before_all p (map f es) ≡ true → n < length es → e ≡ slice_index_or es n e →
      stands_before p (f e) ≡ true
  at-index p [] n e h lt q = absurd (omega arith)
  at-index p (x ∷ es) zero e h lt q = ap (λ z. stands_before p (f z)) q ∙ and-left (stands_before p (f x)) (before_all p (map f es)) h
  at-index p (x ∷ es) (suc n) e h lt q = at-index p es n e (and-right (stands_before p (f x)) (before_all p (map f es)) h) (omega arith) q

  -- a row that stands before a task lies within the rank
  pub low_half : (p : List ℕ) (es : List X) (n : ℕ) (e : X) → is_ordered (map f es) ≡ true → n < length es → e ≡ slice_index_or es n e →
      stands_before (f e) p ≡ true → n < rank p (map f es)
  low_half p [] n e o lt q h = absurd (omega arith)
  low_half p (x ∷ es) zero e o lt q h =
      let b : stands_before (f x) p ≡ true = ap (λ z. stands_before (f z) p) (sym q) ∙ h in
      subst (λ b. 0 < (if b then suc (rank p (map f es)) else 0)) (sym b) (omega arith)
  low_half p (x ∷ es) (suc n) e o lt q h =
      let all : before_all (f x) (map f es) ≡ true = and-left (before_all (f x) (map f es)) (is_ordered (map f es)) o in
      let b : stands_before (f x) p ≡ true = before-trans (f x) (f e) p (at-index (f x) es n e all (omega arith) q) h in
      let r : n < rank p (map f es) = low_half p es n e (and-right (before_all (f x) (map f es)) (is_ordered (map f es)) o) (omega arith) q h in
      subst (λ b. suc n < (if b then suc (rank p (map f es)) else 0)) (sym b) (omega arith)

  -- and one that does not lies past it
  pub high_half : (p : List ℕ) (es : List X) (n : ℕ) (e : X) → n < length es → e ≡ slice_index_or es n e → stands_before (f e) p ≡ false →
      rank p (map f es) ≤ n
  high_half p [] n e lt q h = absurd (omega arith)
  high_half p (x ∷ es) zero e lt q h =
      let b : stands_before (f x) p ≡ false = ap (λ z. stands_before (f z) p) (sym q) ∙ h in
      subst (λ b. (if b then suc (rank p (map f es)) else 0) ≤ 0) (sym b) (omega arith)
  high_half p (x ∷ es) (suc n) e lt q h =
      let r : rank p (map f es) ≤ n = high_half p es n e (omega arith) q h in
      go (stands_before (f x) p) r
    where
      go : (b : Bool) → rank p (map f es) ≤ n → (if b then suc (rank p (map f es)) else 0) ≤ suc n
      go true r = omega arith
      go false r = omega arith

  pub rank_within : (p : List ℕ) (es : List X) → rank p (map f es) ≤ length es
  rank_within p [] = omega arith
  rank_within p (x ∷ es) = let r : rank p (map f es) ≤ length es = rank_within p es in go (stands_before (f x) p) r
    where
      go : (b : Bool) → rank p (map f es) ≤ length es → (if b then suc (rank p (map f es)) else 0) ≤ suc (length es)
      go true r = omega arith
      go false r = omega arith

  not-among : (p : List ℕ) (es : List X) → before_all p (map f es) ≡ true → place_among p (map f es) ≡ length es
  not-among p [] h = refl
  not-among p (e ∷ es) h =
      subst (λ b. (if b then 0 else suc (place_among p (map f es))) ≡ suc (length es))
      (sym (turned p (f e) (and-left (stands_before p (f e)) (before_all p (map f es)) h)))
      (ap suc (not-among p es (and-right (stands_before p (f e)) (before_all p (map f es)) h)))
    where
      turned : (p q : List ℕ) → stands_before p q ≡ true → same_path p q ≡ false
      turned p q h = flip (same_path p q) refl
        where
          flip : (b : Bool) → same_path p q ≡ b → same_path p q ≡ false
          flip false e = e
          flip true e = absurd (true-not-false (sym (same-refl p) ∙ before-other p p (subst (λ z. stands_before p z ≡ true) (sym (same-is p q e)) h)))

  -- where the row at the rank is the path's, this is its place
  pub found : (p : List ℕ) (es : List X) (n : ℕ) (e : X) → n ≡ rank p (map f es) → n < length es → e ≡ slice_index_or es n e →
      same_path p (f e) ≡ true → n ≡ place_among p (map f es)
  found p [] n e r lt q h = absurd (omega arith)
  found p (x ∷ es) n e r lt q h = go (found p es) (stands_before (f x) p) refl n r lt q
    where
      go : ((m : ℕ) (g : X) → m ≡ rank p (map f es) → m < length es → g ≡ slice_index_or es m g → same_path p (f g) ≡ true →
          m ≡ place_among p (map f es)) → (b : Bool) → stands_before (f x) p ≡ b → (n : ℕ) → n ≡ (if b then suc (rank p (map f es)) else 0) →
          n < suc (length es) → e ≡ slice_index_or (x ∷ es) n e → n ≡ place_among p (map f (x ∷ es))
      go g true w zero r lt q = absurd (omega arith)
      go g true w (suc n) r lt q =
          let i : n ≡ place_among p (map f es) = g n e (omega arith) (omega arith) q h in
          subst (λ b. suc n ≡ (if b then 0 else suc (place_among p (map f es)))) (sym (before-other (f x) p w)) (ap suc i)
      go g false w (suc n) r lt q = absurd (omega arith)
      go g false w zero r lt q =
          subst (λ b. 0 ≡ (if b then 0 else suc (place_among p (map f es)))) (sym (ap (λ z. same_path p (f z)) (sym q) ∙ h)) refl

  -- the first row is the path's
  pub first-found : (p : List ℕ) (es : List X) (e : X) → 0 < length es → e ≡ slice_index_or es 0 e → same_path p (f e) ≡ true → place_among p (map f es) ≡ 0
  first-found p [] e lt q h = refl
  first-found p (x ∷ es) e lt q h =
      subst (λ b. (if b then 0 else suc (place_among p (map f es))) ≡ 0) (sym (ap (λ z. same_path p (f z)) (sym q) ∙ h)) refl

  -- where it is another's, the path has no row
  pub missed : (p : List ℕ) (es : List X) (n : ℕ) (e : X) → is_ordered (map f es) ≡ true → n ≡ rank p (map f es) → n < length es →
      e ≡ slice_index_or es n e → same_path p (f e) ≡ false → length es ≡ place_among p (map f es)
  missed p [] n e o r lt q h = refl
  missed p (x ∷ es) n e o r lt q h = go (missed p es) (stands_before (f x) p) refl n r lt q
    where
      all : before_all (f x) (map f es) ≡ true
      all = and-left (before_all (f x) (map f es)) (is_ordered (map f es)) o

      go : ((m : ℕ) (g : X) → is_ordered (map f es) ≡ true → m ≡ rank p (map f es) → m < length es → g ≡ slice_index_or es m g →
          same_path p (f g) ≡ false → length es ≡ place_among p (map f es)) → (b : Bool) → stands_before (f x) p ≡ b → (n : ℕ) →
          n ≡ (if b then suc (rank p (map f es)) else 0) → n < suc (length es) → e ≡ slice_index_or (x ∷ es) n e →
          suc (length es) ≡ place_among p (map f (x ∷ es))
      go g true w zero r lt q = absurd (omega arith)
      go g true w (suc n) r lt q =
          let i : length es ≡ place_among p (map f es) =
          g n e (and-right (before_all (f x) (map f es)) (is_ordered (map f es)) o) (omega arith) (omega arith) q h in
          subst (λ b. suc (length es) ≡ (if b then 0 else suc (place_among p (map f es)))) (sym (before-other (f x) p w)) (ap suc i)
      go g false w (suc n) r lt q = absurd (omega arith)
      go g false w zero r lt q =
          let s : same_path p (f x) ≡ false = ap (λ z. same_path p (f z)) (sym q) ∙ h in
          subst (λ b. suc (length es) ≡ (if b then 0 else suc (place_among p (map f es)))) (sym s)
          (ap suc (sym (not-among p es (further p (f x) (map f es) (before-total p (f x) w s) all))))

  -- nor where all rows stand before it
  pub past-all : (p : List ℕ) (es : List X) (n : ℕ) → n ≡ rank p (map f es) → length es ≤ n → length es ≡ place_among p (map f es)
  past-all p [] n r le = refl
  past-all p (x ∷ es) n r le = go (past-all p es) (stands_before (f x) p) refl n r le
    where
      go : ((m : ℕ) → m ≡ rank p (map f es) → length es ≤ m → length es ≡ place_among p (map f es)) → (b : Bool) → stands_before (f x) p ≡ b →
          (n : ℕ) → n ≡ (if b then suc (rank p (map f es)) else 0) → suc (length es) ≤ n → suc (length es) ≡ place_among p (map f (x ∷ es))
      go g true w zero r le = absurd (omega arith)
      go g true w (suc n) r le =
          let i : length es ≡ place_among p (map f es) = g n (omega arith) (omega arith) in
          subst (λ b. suc (length es) ≡ (if b then 0 else suc (place_among p (map f es)))) (sym (before-other (f x) p w)) (ap suc i)
      go g false w n r le = absurd (omega arith)

  -- two rows tell of a place past the front, and the later alone where it does not let the path stand before it
  pub fits-pair : (k : List ℕ) (es : List X) (n m : ℕ) (e g : X) → n ≡ suc m → n < length es → e ≡ slice_index_or es n e → g ≡ slice_index_or es m g →
      fits_at n k (map f es) ≡ stands_before k (f e) && stands_before (f g) k
  fits-pair k es zero m e g s lt q r = absurd (omega arith)
  fits-pair k [] (suc n) m e g s lt q r = absurd (omega arith)
  fits-pair k (x ∷ []) (suc n) m e g s lt q r = absurd (omega arith)
  fits-pair k (x ∷ (y ∷ es)) (suc zero) zero e g s lt q r =
      ap (λ z. stands_before k (f z) && stands_before (f x) k) (sym q) ∙ ap (λ z. stands_before k (f e) && stands_before (f z) k) (sym r)
  fits-pair k (x ∷ (y ∷ es)) (suc zero) (suc m) e g s lt q r = absurd (omega arith)
  fits-pair k (x ∷ (y ∷ es)) (suc (suc n)) zero e g s lt q r = absurd (omega arith)
  fits-pair k (x ∷ (y ∷ es)) (suc (suc n)) (suc m) e g s lt q r = fits-pair k (y ∷ es) (suc n) m e g (omega arith) (omega arith) q r

  pub fits-not : (k : List ℕ) (es : List X) (n : ℕ) (e : X) → n < length es → e ≡ slice_index_or es n e → stands_before k (f e) ≡ false →
      fits_at n k (map f es) ≡ false
  fits-not k [] n e lt q h = refl
  fits-not k (x ∷ es) zero e lt q h = ap (λ z. stands_before k (f z)) (sym q) ∙ h
  fits-not k (x ∷ []) (suc n) e lt q h = absurd (omega arith)
  fits-not k (x ∷ (y ∷ es)) (suc zero) e lt q h =
      ap (λ z. stands_before k (f z) && stands_before (f x) k) (sym q) ∙ ap (λ b. b && stands_before (f x) k) h
  fits-not k (x ∷ (y ∷ es)) (suc (suc n)) e lt q h = fits-not k (y ∷ es) (suc n) e (omega arith) q h

-- the order is kept where one goes
pub without-before : (q p : List ℕ) (es : List (List ℕ)) → before_all q es ≡ true → before_all q (without p es) ≡ true
without-before q p [] h = refl
without-before q p (e ∷ es) h =
    let l : stands_before q e ≡ true = and-left (stands_before q e) (before_all q es) h in
    let r : before_all q es ≡ true = and-right (stands_before q e) (before_all q es) h in
    elim (same_path p e) as (λ b. before_all q (if b then es else e ∷ without p es) ≡ true) [
      | true ↦ r
      | false ↦ and-both (stands_before q e) (before_all q (without p es)) l (without-before q p es r)
    ]

pub without-ordered : (p : List ℕ) (es : List (List ℕ)) → is_ordered es ≡ true → is_ordered (without p es) ≡ true
without-ordered p [] h = refl
without-ordered p (e ∷ es) h =
    let l : before_all e es ≡ true = and-left (before_all e es) (is_ordered es) h in
    let r : is_ordered es ≡ true = and-right (before_all e es) (is_ordered es) h in
    elim (same_path p e) as (λ b. is_ordered (if b then es else e ∷ without p es) ≡ true) [
      | true ↦ r
      | false ↦ and-both (before_all e (without p es)) (is_ordered (without p es)) (without-before e p es l) (without-ordered p es r)
    ]

-- and where a child is put before its parent that fits there
pub entered-before : (q p c : List ℕ) (es : List (List ℕ)) → before_all q es ≡ true → stands_before q c ≡ true → before_all q (entered p c es) ≡ true
entered-before q p c [] h g = refl
entered-before q p c (e ∷ es) h g =
    let l : stands_before q e ≡ true = and-left (stands_before q e) (before_all q es) h in
    let r : before_all q es ≡ true = and-right (stands_before q e) (before_all q es) h in
    elim (same_path p e) as (λ b. before_all q (if b then c ∷ (e ∷ es) else e ∷ entered p c es) ≡ true) [
      | true ↦ and-both (stands_before q c) (before_all q (e ∷ es)) g h
      | false ↦ and-both (stands_before q e) (before_all q (entered p c es)) l (entered-before q p c es r g)
    ]

pub entered-ordered : (p c : List ℕ) (es : List (List ℕ)) → is_ordered es ≡ true → fits p c es ≡ true → is_ordered (entered p c es) ≡ true
entered-ordered p c [] h g = refl
entered-ordered p c (e ∷ es) h g = go (entered-ordered p c es) (same_path p e) g
  where
    l : before_all e es ≡ true
    l = and-left (before_all e es) (is_ordered es) h

    r : is_ordered es ≡ true
    r = and-right (before_all e es) (is_ordered es) h

    go : (is_ordered es ≡ true → fits p c es ≡ true → is_ordered (entered p c es) ≡ true) → (b : Bool) →
        (if b then stands_before c e else (stands_before e c && fits p c es)) ≡ true → is_ordered (if b then c ∷ (e ∷ es) else e ∷ entered p c es) ≡ true
    go f true g = and-both (before_all c (e ∷ es)) (is_ordered (e ∷ es)) (and-both (stands_before c e) (before_all c es) g (further c e es g l)) h
    go f false g =
        let b : stands_before e c ≡ true = and-left (stands_before e c) (fits p c es) g in
        let t : fits p c es ≡ true = and-right (stands_before e c) (fits p c es) g in
        and-both (before_all e (entered p c es)) (is_ordered (entered p c es)) (entered-before e p c es l b) (f r t)

-- where the parent is there and its child before it keeps the order, it fits
pub ordered-fits : (p c : List ℕ) (es : List (List ℕ)) → is_among p es ≡ true → is_ordered (entered p c es) ≡ true → fits p c es ≡ true
ordered-fits p c [] a h = absurd (cc)
ordered-fits p c (e ∷ es) a h = go (ordered-fits p c es) (same_path p e) a h
  where
    stands : before_all e (entered p c es) ≡ true → is_among p es ≡ true → stands_before e c ≡ true
    stands all a = here es all a
      where
        here : (es : List (List ℕ)) → before_all e (entered p c es) ≡ true → is_among p es ≡ true → stands_before e c ≡ true
        here [] all a = absurd (cc)
        here (x ∷ es) all a = step (here es) (same_path p x) all a
          where
            step : (before_all e (entered p c es) ≡ true → is_among p es ≡ true → stands_before e c ≡ true) → (b : Bool) →
                before_all e (if b then c ∷ (x ∷ es) else x ∷ entered p c es) ≡ true → b || is_among p es ≡ true → stands_before e c ≡ true
            step f true all a = and-left (stands_before e c) (before_all e (x ∷ es)) all
            step f false all a = f (and-right (stands_before e x) (before_all e (entered p c es)) all) a

    go : (is_among p es ≡ true → is_ordered (entered p c es) ≡ true → fits p c es ≡ true) → (b : Bool) → b || is_among p es ≡ true →
        is_ordered (if b then c ∷ (e ∷ es) else e ∷ entered p c es) ≡ true → (if b then stands_before c e else (stands_before e c && fits p c es)) ≡ true
    go f true a h = and-left (stands_before c e) (before_all c es) (and-left (before_all c (e ∷ es)) (is_ordered (e ∷ es)) h)
    go f false a h =
        and-both (stands_before e c) (fits p c es) (stands (and-left (before_all e (entered p c es)) (is_ordered (entered p c es)) h) a)
        (f a (and-right (before_all e (entered p c es)) (is_ordered (entered p c es)) h))

swap : (a b : Bool) → a && b ≡ b && a
swap true true = refl
swap true false = refl
swap false true = refl
swap false false = refl

implied : (a b : Bool) → (b ≡ true → a ≡ true) → b ≡ a && b
implied true b f = refl
implied false true f = absurd (let x = f refl in cc)
implied false false f = refl

-- a row more in front asks no more
within : (c e : List ℕ) (es : List (List ℕ)) (n : ℕ) → is_ordered (e ∷ es) ≡ true → n < length es →
    fits_at (suc n) c (e ∷ es) ≡ stands_before e c && fits_at n c es
within c e [] n o lt = absurd (omega arith)
within c e (x ∷ es) zero o lt = swap (stands_before c x) (stands_before e c)
within c e (x ∷ es) (suc n) o lt =
    let l : before_all e (x ∷ es) ≡ true = and-left (before_all e (x ∷ es)) (is_ordered (x ∷ es)) o in
    let r : is_ordered (x ∷ es) ≡ true = and-right (before_all e (x ∷ es)) (is_ordered (x ∷ es)) o in
    let b : stands_before e x ≡ true = and-left (stands_before e x) (before_all e es) l in
    let i : fits_at (suc n) c (x ∷ es) ≡ stands_before x c && fits_at n c es = within c x es n r (omega arith) in
    implied (stands_before e c) (fits_at (suc n) c (x ∷ es)) (λ t. before-trans e x c b (and-left (stands_before x c) (fits_at n c es) (sym i ∙ t)))

-- where it fits is told by two rows
pub fits-there : (p c : List ℕ) (es : List (List ℕ)) → is_ordered es ≡ true → place_among p es < length es →
    fits_at (place_among p es) c es ≡ fits p c es
fits-there p c [] h lt = refl
fits-there p c (e ∷ es) h lt = go (fits-there p c es) (same_path p e) lt
  where
    r : is_ordered es ≡ true
    r = and-right (before_all e es) (is_ordered es) h

    go : (is_ordered es ≡ true → place_among p es < length es → fits_at (place_among p es) c es ≡ fits p c es) → (b : Bool) →
        (if b then 0 else suc (place_among p es)) < suc (length es) →
        fits_at (if b then 0 else suc (place_among p es)) c (e ∷ es) ≡ (if b then stands_before c e else (stands_before e c && fits p c es))
    go f true lt = refl
    go f false lt = within c e es (place_among p es) h (omega arith) ∙ ap (λ b. stands_before e c && b) (f r (omega arith))

and-none : (a b : Bool) → b ≡ false → a && b ≡ false
and-none true b h = h
and-none false b h = refl

-- a path that is not there fits nowhere
pub fits-past : (p c : List ℕ) (es : List (List ℕ)) → length es ≤ place_among p es → fits p c es ≡ false
fits-past p c [] le = refl
fits-past p c (e ∷ es) le = go (fits-past p c es) (same_path p e) le
  where
    go : (length es ≤ place_among p es → fits p c es ≡ false) → (b : Bool) → suc (length es) ≤ (if b then 0 else suc (place_among p es)) →
        (if b then stands_before c e else (stands_before e c && fits p c es)) ≡ false
    go f true le = absurd (omega arith)
    go f false le = and-none (stands_before e c) (fits p c es) (f (omega arith))

-- what is left of two lists past their shared numbers
pub ends : (p q : List ℕ) (n : ℕ) → n ≡ min (length p) (length q) → nat_lt (length q) (length p) ≡ stands_before (drop n p) (drop n q)
ends [] q n e = first n (length q) (omega (arith, e))
  where
    first : (n k : ℕ) → n ≡ 0 → nat_lt k 0 ≡ stands_before (drop n []) (drop n q)
    first zero k e = grind (arith, nat_tests)
    first (suc n) k e = absurd (omega arith)
ends (i ∷ p) [] n e = first n (omega (arith, e))
  where
    first : (n : ℕ) → n ≡ 0 → nat_lt 0 (suc (length p)) ≡ stands_before (drop n (i ∷ p)) (drop n [])
    first zero e = grind (arith, nat_tests)
    first (suc n) e = absurd (omega arith)
ends (i ∷ p) (j ∷ q) zero e = absurd (omega arith)
ends (i ∷ p) (j ∷ q) (suc n) e = less (length q) (length p) ∙ ends p q n (omega arith)
  where
    less : (a b : ℕ) → nat_lt (suc a) (suc b) ≡ nat_lt a b
    less a b = grind (arith, nat_tests)
