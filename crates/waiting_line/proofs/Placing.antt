-- What is put in line keeps the order, and its place is found by halves.
use Rattle.std.proofs.Common.{◌≡◌, ℕ, zero, suc, ◌<◌, Bool, true, false, not, ◌&&◌, List, [], ◌∷◌, ◌++◌, length, map, refl, sym, ap, ◌∙◌, subst, arith}
use Rattle.std.specs.Prelude.{slice_index_or, if◌then◌else◌}
use Rattle.std.specs.List.{insert}
use Rattle.jade_base.specs.Places.{same_path}
use Rattle.task_roll.specs.Order.{stands_before, rank}
use Rattle.task_roll.proofs.InOrder.{same-is, same-refl, before-other, before-trans, before-total}
use Rattle.waiting_line.specs.Lines.{none_before, in_order, placed}

true-not-false : true ≡ false → ⊥
true-not-false q = absurd (cc)

and-left : (a b : Bool) → a && b ≡ true → a ≡ true
and-left true b h = refl
and-left false b h = absurd (cc)

and-right : (a b : Bool) → a && b ≡ true → b ≡ true
and-right true b h = h
and-right false b h = absurd (cc)

and-both : (a b : Bool) → a ≡ true → b ≡ true → a && b ≡ true
and-both true b h g = g
and-both false b h g = absurd (cc)

not-true : (b : Bool) → not b ≡ true → b ≡ false
not-true true h = absurd (cc)
not-true false h = refl

not-false : (b : Bool) → b ≡ false → not b ≡ true
not-false true h = absurd (cc)
not-false false h = refl

-- of two tasks one at most stands before the other
pub before-once : (p q : List ℕ) → stands_before p q ≡ true → stands_before q p ≡ false
before-once p q h = go (stands_before q p) refl
  where
    go : (b : Bool) → stands_before q p ≡ b → stands_before q p ≡ false
    go false e = e
    go true e = absurd (true-not-false (sym (same-refl p) ∙ before-other p p (before-trans p q p h e)))

-- what stands before one that does not come after another stands before the other too
pub before-later : (p q r : List ℕ) → stands_before q p ≡ true → stands_before q r ≡ false → stands_before r p ≡ true
before-later p q r h g = go (same_path q r) refl
  where
    go : (b : Bool) → same_path q r ≡ b → stands_before r p ≡ true
    go true e = subst (λ z. stands_before z p ≡ true) (same-is q r e) h
    go false e =
        let turned : same_path r q ≡ false = other (same_path r q) refl in
        before-trans r q p (before-total r q g turned) h
      where
        other : (c : Bool) → same_path r q ≡ c → same_path r q ≡ false
        other false w = w
        other true w = absurd (true-not-false (sym (same-refl q) ∙ subst (λ z. same_path q z ≡ false) (same-is r q w) e))

module _ {X : Type 0} (f : X → List ℕ) where
  -- behind what does not stand before a task come none that do
  none-further : (p : List ℕ) (y : X) (ys : List X) → stands_before (f y) p ≡ false → none_before (f y) (map f ys) ≡ true → none_before p (map f ys) ≡ true
  none-further p y [] h g = refl
  none-further p y (z ∷ ys) h g =
      and-both (not (stands_before (f z) p)) (none_before p (map f ys)) (not-false (stands_before (f z) p) (go (stands_before (f z) p) refl))
      (none-further p y ys h (and-right (not (stands_before (f z) (f y))) (none_before (f y) (map f ys)) g))
    where
      go : (b : Bool) → stands_before (f z) p ≡ b → stands_before (f z) p ≡ false
      go false e = e
      go true e =
          let n : stands_before (f z) (f y) ≡ false =
          not-true (stands_before (f z) (f y)) (and-left (not (stands_before (f z) (f y))) (none_before (f y) (map f ys)) g) in
          absurd (true-not-false (sym (before-later p (f z) (f y) e n) ∙ h))

  -- one more that does not stand before a task
  placed-none : (q : List ℕ) (x : X) (ys : List X) → stands_before (f x) q ≡ false → none_before q (map f ys) ≡ true →
      none_before q (map f (placed f x ys)) ≡ true
  placed-none q x [] h g = and-both (not (stands_before (f x) q)) true (not-false (stands_before (f x) q) h) refl
  placed-none q x (y ∷ ys) h g =
      let l : not (stands_before (f y) q) ≡ true = and-left (not (stands_before (f y) q)) (none_before q (map f ys)) g in
      let r : none_before q (map f ys) ≡ true = and-right (not (stands_before (f y) q)) (none_before q (map f ys)) g in
      let i : none_before q (map f (placed f x ys)) ≡ true = placed-none q x ys h r in
      elim (stands_before (f y) (f x)) as (λ b. none_before q (map f (if b then y ∷ placed f x ys else x ∷ (y ∷ ys))) ≡ true) [
        | true ↦ and-both (not (stands_before (f y) q)) (none_before q (map f (placed f x ys))) l i
        | false ↦ and-both (not (stands_before (f x) q)) (none_before q (map f (y ∷ ys))) (not-false (stands_before (f x) q) h) g
      ]

  pub placed_in_order : (x : X) (ys : List X) → in_order (map f ys) ≡ true → in_order (map f (placed f x ys)) ≡ true
  placed_in_order x [] h = refl
  placed_in_order x (y ∷ ys) h = go (stands_before (f y) (f x)) refl (placed_in_order x ys r)
    where
      l : none_before (f y) (map f ys) ≡ true
      l = and-left (none_before (f y) (map f ys)) (in_order (map f ys)) h

      r : in_order (map f ys) ≡ true
      r = and-right (none_before (f y) (map f ys)) (in_order (map f ys)) h

      go : (b : Bool) → stands_before (f y) (f x) ≡ b → in_order (map f (placed f x ys)) ≡ true →
          in_order (map f (if b then y ∷ placed f x ys else x ∷ (y ∷ ys))) ≡ true
      go true e i =
          and-both (none_before (f y) (map f (placed f x ys))) (in_order (map f (placed f x ys)))
          (placed-none (f y) x ys (before-once (f y) (f x) e) l) i
      go false e i =
          and-both (none_before (f x) (map f (y ∷ ys))) (in_order (map f (y ∷ ys)))
          (and-both (not (stands_before (f y) (f x))) (none_before (f x) (map f ys)) (not-false (stands_before (f y) (f x)) e) (none-further (f x) y ys e l)) h

  -- it is put at its rank
  pub placed_at : (x : X) (ys : List X) → insert ys (rank (f x) (map f ys)) x ≡ placed f x ys
  placed_at x [] = refl
  placed_at x (y ∷ ys) =
      let i : insert ys (rank (f x) (map f ys)) x ≡ placed f x ys = placed_at x ys in
      elim (stands_before (f y) (f x)) as (λ b. insert (y ∷ ys) (if b then suc (rank (f x) (map f ys)) else 0) x ≡ (if b then y ∷ placed f x ys else x ∷ (y ∷ ys))) [
        | true ↦ ap (λ zs. y ∷ zs) i
        | false ↦ refl
      ]

  -- what stands before a task lies within its rank
  pub within_rank : (p : List ℕ) (es : List X) (n : ℕ) (e : X) → in_order (map f es) ≡ true → n < length es → e ≡ slice_index_or es n e →
      stands_before (f e) p ≡ true → n < rank p (map f es)
  within_rank p [] n e o lt q h = absurd (omega arith)
  within_rank p (x ∷ es) zero e o lt q h =
      let b : stands_before (f x) p ≡ true = ap (λ z. stands_before (f z) p) (sym q) ∙ h in
      subst (λ b. 0 < (if b then suc (rank p (map f es)) else 0)) (sym b) (omega arith)
  within_rank p (x ∷ es) (suc n) e o lt q h =
      let all : none_before (f x) (map f es) ≡ true = and-left (none_before (f x) (map f es)) (in_order (map f es)) o in
      let b : stands_before (f x) p ≡ true = before-later p (f e) (f x) h (not-there es n all (omega arith) q) in
      let r : n < rank p (map f es) = within_rank p es n e (and-right (none_before (f x) (map f es)) (in_order (map f es)) o) (omega arith) q h in
      subst (λ b. suc n < (if b then suc (rank p (map f es)) else 0)) (sym b) (omega arith)
    where
      not-there : (es : List X) (n : ℕ) → none_before (f x) (map f es) ≡ true → n < length es → e ≡ slice_index_or es n e → stands_before (f e) (f x) ≡ false
      not-there [] n all lt q = absurd (omega arith)
      not-there (y ∷ es) zero all lt q =
          subst (λ z. stands_before (f z) (f x) ≡ false) (sym q)
          (not-true (stands_before (f y) (f x)) (and-left (not (stands_before (f y) (f x))) (none_before (f x) (map f es)) all))
      not-there (y ∷ es) (suc n) all lt q =
          not-there es n (and-right (not (stands_before (f y) (f x))) (none_before (f x) (map f es)) all) (omega arith) q

  -- the rest of a line, and its beginning, are in order
  pub order_rest : (x : X) (es : List X) → in_order (map f (x ∷ es)) ≡ true → in_order (map f es) ≡ true
  order_rest x es h = and-right (none_before (f x) (map f es)) (in_order (map f es)) h

  none-begin : (p : List ℕ) (xs ys : List X) → none_before p (map f (xs ++ ys)) ≡ true → none_before p (map f xs) ≡ true
  none-begin p [] ys h = refl
  none-begin p (x ∷ xs) ys h =
      and-both (not (stands_before (f x) p)) (none_before p (map f xs)) (and-left (not (stands_before (f x) p)) (none_before p (map f (xs ++ ys))) h)
      (none-begin p xs ys (and-right (not (stands_before (f x) p)) (none_before p (map f (xs ++ ys))) h))

  pub order_begin : (xs ys : List X) → in_order (map f (xs ++ ys)) ≡ true → in_order (map f xs) ≡ true
  order_begin [] ys h = refl
  order_begin (x ∷ xs) ys h =
      and-both (none_before (f x) (map f xs)) (in_order (map f xs))
      (none-begin (f x) xs ys (and-left (none_before (f x) (map f (xs ++ ys))) (in_order (map f (xs ++ ys))) h))
      (order_begin xs ys (and-right (none_before (f x) (map f (xs ++ ys))) (in_order (map f (xs ++ ys))) h))
