-- A search by halves among ascending objects.
use Rattle.std.proofs.Common.{◌≡◌, ℕ, zero, suc, ◌+◌, ◌<◌, ◌≤◌, ◌⊎◌, inl, inr, List, [], ◌∷◌, length, Some, None, refl, sym, ap, ◌∙◌, subst}
use Rattle.std.proofs.Common.{arith, ⊎_elim}
use Rattle.std.specs.Prelude.{slice_get, slice_index_or}
use Rattle.std.proofs.lemmas.Bool.{ne_eqb}
use Rattle.std.proofs.lemmas.Option.{none-some, same_Some, slice_get-get_or}
use Rattle.jade_base.specs.declared.place.ObjectId.{ObjectId}
use Rattle.task_machine.specs.declared.holdings.Row.{Row}
use Rattle.task_machine.specs.Executions.{objects_in}
use Rattle.task_machine.specs.steps.Holding.{row_from}
use Rattle.task_machine.specs.steps.Searching.{ObjectsAbove, ObjectsAscend, ObjectsBelow, ObjectsFrom, IsFirstFrom}

get_within : (xs : List ObjectId) (k : ℕ) (x : ObjectId) → slice_get xs k ≡ Some x → k < length xs
get_within [] k x h = absurd (none-some x h)
get_within (y ∷ xs) zero x h = omega arith
get_within (y ∷ xs) (suc k) x h = let lt = get_within xs k x h in omega (arith, lt)

above_get : (n : ℕ) (xs : List ObjectId) (k : ℕ) (x : ObjectId) → ObjectsAbove n xs → slice_get xs k ≡ Some x → n < x.0
above_get n [] k x h g = absurd (none-some x g)
above_get n (y ∷ xs) zero x h g = subst (λ (z : ObjectId). n < z.0) (same_Some y x g) h.0
above_get n (y ∷ xs) (suc k) x h g = above_get n xs k x h.1 g

-- objects ascend with their places
get_ascend : (xs : List ObjectId) (i j : ℕ) (x y : ObjectId) → ObjectsAscend xs → i < j → slice_get xs i ≡ Some x → slice_get xs j ≡ Some y → x.0 < y.0
get_ascend [] i j x y asc lt g h = absurd (none-some x g)
get_ascend (z ∷ xs) zero zero x y asc lt g h = absurd (omega (arith, lt))
get_ascend (z ∷ xs) zero (suc j) x y asc lt g h = subst (λ (w : ObjectId). w.0 < y.0) (same_Some z x g) (above_get z.0 xs j y asc.0 h)
get_ascend (z ∷ xs) (suc i) zero x y asc lt g h = absurd (omega (arith, lt))
get_ascend (z ∷ xs) (suc i) (suc j) x y asc lt g h = get_ascend xs i j x y asc.1 (omega (arith, lt)) g h

less_or_same : (i j : ℕ) → i < suc j → (i < j) ⊎ (i ≡ j)
less_or_same zero zero lt = inr refl
less_or_same zero (suc j) lt = inl (omega arith)
less_or_same (suc i) zero lt = absurd (omega (arith, lt))
less_or_same (suc i) (suc j) lt = ⊎_elim (λ l. inl (omega (arith, l))) (λ q. inr (ap suc q)) (less_or_same i j (omega (arith, lt)))

lt_or_le : (i m : ℕ) → (i < m) ⊎ (m ≤ i)
lt_or_le i zero = inr (omega arith)
lt_or_le zero (suc m) = inl (omega arith)
lt_or_le (suc i) (suc m) = ⊎_elim (λ lt. inl (omega (arith, lt))) (λ le. inr (omega (arith, le))) (lt_or_le i m)

get_upto : (xs : List ObjectId) (i j : ℕ) (x y : ObjectId) → ObjectsAscend xs → i < suc j → slice_get xs i ≡ Some x → slice_get xs j ≡ Some y → x.0 ≤ y.0
get_upto xs i j x y asc lt g h = ⊎_elim (λ l. let a = get_ascend xs i j x y asc l g h in omega (arith, a))
    (λ q. let same = ap (λ (z : ObjectId). z.0) (same_Some x y (sym g ∙ ap (slice_get xs) q ∙ h)) in omega (arith, same)) (less_or_same i j lt)

-- a half below, and a half from the number on
pub lower_half : (from : ℕ) (xs : List ObjectId) (m : ℕ) (x : ObjectId) → ObjectsAscend xs → slice_get xs m ≡ Some x → x.0 < from
    → ObjectsBelow from (m + 1) xs
lower_half from xs m x asc h lt k y less g = let a = get_upto xs k m y x asc (omega (arith, less)) g h in omega (arith, a, lt)

pub upper_half : (from : ℕ) (xs : List ObjectId) (m : ℕ) (x : ObjectId) → ObjectsAscend xs → slice_get xs m ≡ Some x → from ≤ x.0 → ObjectsFrom from m xs
upper_half from xs m x asc h le k y less g = let a = get_upto xs m k x y asc (omega (arith, less)) h g in omega (arith, a, le)

-- ---- rows

pub row_object : (rs : List Row) (k : ℕ) (d : Row) → k < length rs → slice_get (objects_in rs) k ≡ Some (slice_index_or rs k d).object
row_object [] k d lt = absurd (omega (arith, lt))
row_object (r ∷ rs) zero d lt = refl
row_object (r ∷ rs) (suc k) d lt = row_object rs k d (omega (arith, lt))

-- past the last row there is none
pub objects_end : (rs : List Row) (k : ℕ) (x : ObjectId) → length rs ≤ k → slice_get (objects_in rs) k ≡ Some x → ⊥
objects_end [] k x le h = none-some x h
objects_end (r ∷ rs) zero x le h = absurd (omega (arith, le))
objects_end (r ∷ rs) (suc k) x le h = objects_end rs k x (omega (arith, le)) h

-- where no row is the object's, none is found
no_row : (o n : ℕ) (rs : List Row) → ((k : ℕ) (x : ObjectId) → slice_get (objects_in rs) k ≡ Some x → x.0 ≡ o → ⊥) → row_from o n rs ≡ None
no_row o n [] h = refl
no_row o n (r ∷ rs) h = rw (ne_eqb r.object.0 o (h 0 r.object refl)) (no_row o (suc n) rs (λ k x g. h (suc k) x g))

-- the first row that is not below the object is of another, so no row is the object's
pub row_absent : (o : ℕ) (rs : List Row) (place : ℕ) → ObjectsAscend (objects_in rs) → IsFirstFrom o place (objects_in rs)
    → ((x : ObjectId) → slice_get (objects_in rs) place ≡ Some x → x.0 ≡ o → ⊥) → row_from o 0 rs ≡ None
row_absent o rs place asc at other = no_row o 0 rs (λ k x g q. apart k x g q (lt_or_le k place))
  where
    past : (k : ℕ) (x : ObjectId) → slice_get (objects_in rs) k ≡ Some x → x.0 ≡ o → (place < k) ⊎ (place ≡ k) → ⊥
    past k x g q (inl lt) =
        let within = get_within (objects_in rs) k x g in
        let y = slice_index_or (objects_in rs) place x in
        let h = slice_get-get_or (objects_in rs) place x (omega (arith, within, lt)) in
        let far = get_ascend (objects_in rs) place k y x asc lt h g in
        let least = at.above place y (omega arith) h in
        absurd (omega (arith, far, least, q))
    past k x g q (inr e) = other x (ap (slice_get (objects_in rs)) e ∙ g) q

    apart : (k : ℕ) (x : ObjectId) → slice_get (objects_in rs) k ≡ Some x → x.0 ≡ o → (k < place) ⊎ (place ≤ k) → ⊥
    apart k x g q (inl lt) = let a = at.below k x lt g in absurd (omega (arith, a, q))
    apart k x g q (inr le) = past k x g q (less_or_same place k (omega (arith, le)))
