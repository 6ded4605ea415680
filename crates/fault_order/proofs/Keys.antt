-- The order of two keys, from a place on that their paths have in common.
use Rattle.std.proofs.Common.{◌≡◌, ℕ, suc, ◌+◌, ◌<◌, ◌≤◌, List, [], ◌∷◌, ◌++◌, length, get_or, drop, refl, ap, subst, add-one, drop-cons}
use Rattle.std.specs.declared.cmp.Ordering.{Ordering}
use Rattle.std.specs.declared.cmp.Ordering.TheVariants.{Less, Equal, Greater}
use Rattle.std.specs.Cmp.{IsStrictWeakOrder}
use Rattle.std.specs.Cmp.Lexicographic.{slice_cmp, nat_list_cmp_total}
use Rattle.std.specs.Ordering.{nat_cmp, ordering_then, is_lt}
use Rattle.std.proofs.lemmas.List.{drop_all}
use Rattle.std.proofs.lemmas.List.MinMax.{ranks_by}
use Rattle.jade_base.specs.declared.report.FaultNote.{FaultNote}
use Rattle.jade_base.specs.Places.{path_order}
use Rattle.fault_order.specs.Order.{comes_before, key_of}

-- where both paths go on, their next numbers come first
pub keys-turn : (p q : List ℕ) (k l i : ℕ) → i < length p → i < length q → path_order (drop i p ++ k ∷ []) (drop i q ++ l ∷ []) ≡ ordering_then
    (nat_cmp (get_or p i 0) (get_or q i 0)) (path_order (drop (i + 1) p ++ k ∷ []) (drop (i + 1) q ++ l ∷ []))
keys-turn p q k l i h j = rw (add-one, drop-cons p i 0, drop-cons q i 0)

none_first : (xs : List ℕ) (l : ℕ) → path_order [] (xs ++ l ∷ []) ≡ Less
none_first [] l = refl
none_first (x ∷ xs) l = refl

none_last : (xs : List ℕ) (k : ℕ) → path_order (xs ++ k ∷ []) [] ≡ Greater
none_last [] k = refl
none_last (x ∷ xs) k = refl

then-equal : (o : Ordering) → ordering_then o Equal ≡ o
then-equal Less = refl
then-equal Equal = refl
then-equal Greater = refl

-- the first path ends
pub keys-less : (p q : List ℕ) (k l i : ℕ) → length p ≤ i → i < length q → path_order (drop i p ++ k ∷ []) (drop i q ++ l ∷ []) ≡ ordering_then
    (nat_cmp k (get_or q i 0)) Less
keys-less p q k l i h j = rw (drop_all i p h, drop-cons q i 0, none_first (drop (suc i) q) l)

-- the second path ends
pub keys-greater : (p q : List ℕ) (k l i : ℕ) → i < length p → length q ≤ i → path_order (drop i p ++ k ∷ []) (drop i q ++ l ∷ []) ≡ ordering_then
    (nat_cmp (get_or p i 0) l) Greater
keys-greater p q k l i h j = rw (drop_all i q j, drop-cons p i 0, none_last (drop (suc i) p) k)

-- both paths end
pub keys-end : (p q : List ℕ) (k l i : ℕ) → length p ≤ i → length q ≤ i → path_order (drop i p ++ k ∷ []) (drop i q ++ l ∷ []) ≡ nat_cmp k l
keys-end p q k l i h j = rw (drop_all i p h, drop_all i q j) (then-equal (nat_cmp k l))

as_slices : (xs ys : List ℕ) → slice_cmp nat_cmp xs ys ≡ path_order xs ys
as_slices [] [] = refl
as_slices [] (y ∷ ys) = refl
as_slices (x ∷ xs) [] = refl
as_slices (x ∷ xs) (y ∷ ys) = ap (λ o. ordering_then (nat_cmp x y) o) (as_slices xs ys)

-- the notes are ordered by their keys
pub notes_ordered : IsStrictWeakOrder comes_before
notes_ordered =
    let same : (λ (a b : FaultNote). is_lt (slice_cmp nat_cmp (key_of a) (key_of b))) ≡ comes_before = λ i. λ a b. is_lt (as_slices (key_of a) (key_of b) i) in
    subst (λ lt. IsStrictWeakOrder lt) same (ranks_by nat_list_cmp_total key_of)
