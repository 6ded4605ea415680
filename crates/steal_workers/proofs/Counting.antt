-- Counts that are bounded by how many items have passed a test.
use Rattle.std.proofs.Common.{◌≡◌, ℕ, ◌+◌, ◌≤◌, List, Bool, true, false, Some, take, refl, ap, ◌∙◌, arith}
use Rattle.std.specs.Prelude.{count_by, slice_get}
use Rattle.std.proofs.Math.ListN.{get_or}
use Rattle.std.proofs.lemmas.Option.{get_or_from_slice_get, slice_get_within}
use Rattle.std.proofs.lemmas.List.Sums.{count_by_more_yes, count_by_more_no}

module _ {X : Type 0} (p : X → Bool) (xs : List X) (i : ℕ) (x : X) (here : slice_get xs i ≡ Some x) (n m : ℕ) (below : n ≤ count_by p (take i xs)) where
  item : get_or xs i x ≡ x
  item = get_or_from_slice_get xs i x x here

  pub one_more : p x ≡ true → m ≡ n + 1 → m ≤ count_by p (take (i + 1) xs)
  one_more passes is = let e = count_by_more_yes p xs i x (slice_get_within xs i x here) (ap p item ∙ passes) in omega (arith, e, is, below)

  pub no_more : m ≡ n → m ≤ count_by p (take (i + 1) xs)
  no_more is = by (p x) refl
    where
      by : (b : Bool) → p x ≡ b → m ≤ count_by p (take (i + 1) xs)
      by true e = let f = count_by_more_yes p xs i x (slice_get_within xs i x here) (ap p item ∙ e) in omega (arith, f, is, below)
      by false e = let f = count_by_more_no p xs i x (slice_get_within xs i x here) (ap p item ∙ e) in omega (arith, f, is, below)
