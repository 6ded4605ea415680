-- Each call keeps the rule, and what the owner learns from it.
use Rattle.std.proofs.Common.{◌≡◌, ◌≢◌, ℕ, zero, suc, ◌+◌, ◌≤◌, Bool, true, false, true≢false, List, [], ◌∷◌, ◌++◌, set, length, refl, sym, ap, ◌∙◌, subst, ⊎_elim, arith}
use mathlib.Core.Option.{some, some-injective, some-ne-none}
use lib.ListN.{get_elem?}
use Rattle.crossbeam_deque.specs.Tasks.{Pushes, Takes, Pops, Admits, Learns}
use Rattle.crossbeam_deque.proofs.Lists.{at_set, at_snoc}
use Rattle.task_deque.specs.declared.History.{History}
use Rattle.task_deque.specs.Histories.{history, weight, OnlyOwnerPuts, IsBalanced, TookOfPut}

weight-append : {X : Type 0} (h : X → ℕ) (xs ys : List X) → weight h (xs ++ ys) ≡ weight h xs + weight h ys
weight-append h [] ys = omega arith
weight-append h (x ∷ xs) ys = omega (arith, weight-append h xs ys)

weight-one : {X : Type 0} (xs : List X) → weight (λ (x : X). 1) xs ≡ length xs
weight-one [] = refl
weight-one (x ∷ xs) = omega (arith, weight-one xs)

total-set : {X : Type 0} (g : X → ℕ) (l : List X) (j : ℕ) (v w : X) → get_elem? l j ≡ some v → weight g (set l j w) + g v ≡ weight g l + g w
total-set g [] j v w e = absurd (some-ne-none v (sym e))
total-set g (x ∷ xs) zero v w e = omega (arith, ap g (some-injective x v e))
total-set g (x ∷ xs) (suc j) v w e = omega (arith, total-set g xs j v w e)

part-of-total : {X : Type 0} (g : X → ℕ) (l : List X) (j : ℕ) (v : X) → get_elem? l j ≡ some v → g v ≤ weight g l
part-of-total g [] j v e = absurd (some-ne-none v (sym e))
part-of-total g (x ∷ xs) zero v e = omega (arith, ap g (some-injective x v e))
part-of-total g (x ∷ xs) (suc j) v e = omega (arith, part-of-total g xs j v e)

no-total : {X : Type 0} (g : X → ℕ) (l : List X) → ((i : ℕ) (u : X) → get_elem? l i ≡ some u → g u ≡ 0) → weight g l ≡ 0
no-total g [] zeros = refl
no-total g (x ∷ xs) zeros = omega (arith, zeros 0 x refl, no-total g xs (λ i u at. zeros (suc i) u at))

total-of-one : {X : Type 0} (g : X → ℕ) (l : List X) (j : ℕ) (v : X) → get_elem? l j ≡ some v → ((i : ℕ) (u : X) → i ≢ j → get_elem? l i ≡ some u → g u ≡ 0) → weight g l ≡ g v
total-of-one g [] j v e others = absurd (some-ne-none v (sym e))
total-of-one g (x ∷ xs) zero v e others = omega (arith, ap g (some-injective x v e), no-total g xs (λ i u at. others (suc i) u (λ q. omega (arith, q)) at))
total-of-one g (x ∷ xs) (suc j) v e others = omega (arith, others 0 x (λ q. omega (arith, q)) refl, total-of-one g xs j v e (λ i u n at. others (suc i) u (λ q. n (omega (arith, q))) at))

bool-cases : {C : Type 0} (b : Bool) → (b ≡ true → C) → (b ≡ false → C) → C
bool-cases true on off = on refl
bool-cases false on off = off refl

module _ {T : Type 0} where
  only-set : (owner port : ℕ) (views : List (History T)) (w : History T) → ((j : ℕ) (u : History T) → get_elem? views j ≡ some u → OnlyOwnerPuts owner j u) → OnlyOwnerPuts owner port w
      → (j : ℕ) (u : History T) → get_elem? (set views port w) j ≡ some u → OnlyOwnerPuts owner j u
  only-set owner port views w only mine j u e = ⊎_elim (λ (x : (j ≡ port) × (w ≡ u)). subst (λ (y : ℕ × History T). OnlyOwnerPuts owner y.0 y.1) (λ i. (sym x.0 i, x.1 i)) mine)
      (λ (x : (j ≢ port) × (get_elem? views j ≡ some u)). only j u x.1) (at_set views port j w u e)

  -- only the owner puts, so what all handles put is what it put
  bounded : (port : ℕ) (v : History T) (items : List T) (views : List (History T)) → IsBalanced items views → get_elem? views port ≡ some v → v.owns ≡ true → (f : T → ℕ) → weight f v.taken + weight f items ≤ weight f v.put
  bounded port v items views b at owns f =
      let mine : port ≡ b.owner = (b.only port v at).0 owns in
      let total = total-of-one (λ (u : History T). weight f u.put) views port v at (λ j u n e. bool-cases u.owns (λ o. absurd (n ((b.only j u e).0 o ∙ sym mine))) (λ o. ap (weight f) ((b.only j u e).1 o))) in
      omega (arith, b.weighs f, total, part-of-total (λ (u : History T). weight f u.taken) views port v at)

  pub puts : (port : ℕ) (v : History T) (xs : List T) → v.owns ≡ true → Pushes IsBalanced port v xs (λ w. w ≡ history v.owns (v.put ++ xs) v.taken)
  puts port v xs owns items views b at =
      let w : History T = history v.owns (v.put ++ xs) v.taken in (
        w,
        record {
          weighs = λ h.
              let s = total-set (λ (u : History T). weight h u.put) views port v w at in
              let t = total-set (λ (u : History T). weight h u.taken) views port v w at in
              omega (arith, b.weighs h, s, t, weight-append h v.put xs, weight-append h items xs);
          owner = b.owner;
          only = only-set b.owner port views w b.only ((b.only port v at).0, λ o. absurd (true≢false (sym owns ∙ o)));
        },
        refl,
      )

  keeps : (port : ℕ) (v : History T) (xs items all : List T) (views : List (History T)) → IsBalanced all views → get_elem? views port ≡ some v → ((h : T → ℕ) → weight h all ≡ weight h xs + weight h items)
      → IsBalanced items (set views port (history v.owns v.put (v.taken ++ xs)))
  keeps port v xs items all views b at splits =
      let w : History T = history v.owns v.put (v.taken ++ xs) in record {
        weighs = λ h.
            let s = total-set (λ (u : History T). weight h u.put) views port v w at in
            let t = total-set (λ (u : History T). weight h u.taken) views port v w at in
            omega (arith, b.weighs h, s, t, weight-append h v.taken xs, splits h);
        owner = b.owner;
        only = only-set b.owner port views w b.only (b.only port v at);
      }

  took : (port : ℕ) (v : History T) (xs items all : List T) (views : List (History T)) → IsBalanced all views → get_elem? views port ≡ some v → v.owns ≡ true → ((h : T → ℕ) → weight h all ≡ weight h xs + weight h items)
      → TookOfPut (history v.owns v.put (v.taken ++ xs))
  took port v xs items all views b at owns splits f = omega (arith, bounded port v all views b at owns f, weight-append f v.taken xs, splits f)

  pub steals : (port : ℕ) (v : History T) → Takes IsBalanced port v 1 (λ xs w. w ≡ history v.owns v.put (v.taken ++ xs))
  steals port v xs items views _ _ b at = (history v.owns v.put (v.taken ++ xs), keeps port v xs items (xs ++ items) views b at (λ h. weight-append h xs items), refl)

  pub takes : (port : ℕ) (v : History T) → v.owns ≡ true → Takes IsBalanced port v 1 (λ xs w. (w ≡ history v.owns v.put (v.taken ++ xs)) × TookOfPut w)
  takes port v owns xs items views _ _ b at = (
    history v.owns v.put (v.taken ++ xs),
    keeps port v xs items (xs ++ items) views b at (λ h. weight-append h xs items),
    (refl, took port v xs items (xs ++ items) views b at owns (λ h. weight-append h xs items)),
  )

  last-out : (x : T) (items : List T) (h : T → ℕ) → weight h (items ++ x ∷ []) ≡ weight h (x ∷ []) + weight h items
  last-out x items h = omega (arith, weight-append h items (x ∷ []))

  pub pops : (port : ℕ) (v : History T) → v.owns ≡ true → Pops IsBalanced port v (λ xs w. (w ≡ history v.owns v.put (v.taken ++ xs)) × TookOfPut w)
  pops port v owns x items views b at = (
    history v.owns v.put (v.taken ++ x ∷ []),
    keeps port v (x ∷ []) items (items ++ x ∷ []) views b at (last-out x items),
    (refl, took port v (x ∷ []) items (items ++ x ∷ []) views b at owns (last-out x items)),
  )

  first-only : (j : ℕ) (u : History T) → get_elem? (history {T = T} true [] [] ∷ []) j ≡ some u → OnlyOwnerPuts 0 j u
  first-only zero u e = subst (OnlyOwnerPuts 0 0) (some-injective (history {T = T} true [] []) u e) ((λ _. refl), λ o. absurd (true≢false o))
  first-only (suc j) u e = absurd (some-ne-none u (sym e))

  pub begins : IsBalanced {T = T} [] (history true [] [] ∷ [])
  begins = record {
    weighs = λ h. refl;
    owner = 0;
    only = first-only;
  }

  pub admits : Admits IsBalanced (history {T = T} false [] [])
  admits items views b = record {
    weighs = λ h. omega (
      arith,
      b.weighs h,
      weight-append (λ (u : History T). weight h u.put) views (history {T = T} false [] [] ∷ []),
      weight-append (λ (u : History T). weight h u.taken) views (history {T = T} false [] [] ∷ []),
    );
    owner = b.owner;
    only = λ j u e. ⊎_elim (λ (x : get_elem? views j ≡ some u). b.only j u x)
        (λ (is : history {T = T} false [] [] ≡ u). subst (OnlyOwnerPuts b.owner j) is ((λ o. absurd (true≢false (sym o))), λ _. refl)) (at_snoc views (history {T = T} false [] []) u j e);
  }

  pub learns : (port : ℕ) (v : History T) → v.owns ≡ true → Learns IsBalanced port v (λ items. length items + length v.taken ≤ length v.put)
  learns port v owns items views b at = omega (arith, bounded port v items views b at owns (λ (x : T). 1), weight-one items, weight-one v.taken, weight-one v.put)
