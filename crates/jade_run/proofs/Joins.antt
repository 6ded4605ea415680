-- Lists that are joined with a byte between them, one more at a time.
use Rattle.std.proofs.Common.{◌≡◌, ℕ, ◌+◌, ◌<◌, List, [], ◌∷◌, ◌++◌, length, take, map, Some, refl, ap, sym, ◌∙◌, arith, append_assoc, zero, suc}
use Rattle.std.proofs.lemmas.List.{map-append, length-take-le, length-map}
use Rattle.jade_run.specs.Texts.{between}
use Rattle.std.specs.List.{join_with_byte, slice_get}
use Rattle.std.proofs.lemmas.List.{take_more}
use Rattle.std.proofs.lemmas.Option.{slice_get_within, get_or_from_slice_get}

-- one more at the end
pub join_last : (c : ℕ) (ys : List (List ℕ)) (z : List ℕ) → 0 < length ys → join_with_byte c (ys ++ z ∷ []) ≡ join_with_byte c ys ++ c ∷ z
join_last c [] z h = absurd (omega arith)
join_last c (y ∷ []) z h = refl
join_last c (y ∷ x ∷ ys) z h =
    ap (λ r. y ++ (c ∷ r)) (join_last c (x ∷ ys) z (omega arith)) ∙ sym (append_assoc y (c ∷ join_with_byte c (x ∷ ys)) (c ∷ z))

-- one more item than the first i
pub join_more : {A : Type 0} (c : ℕ) (f : A → List ℕ) (xs : List A) (i : ℕ) (x : A) → slice_get xs i ≡ Some x →
    join_with_byte c (map f (take (i + 1) xs)) ≡ join_with_byte c (map f (take i xs)) ++ (between c i ++ f x)
join_more c f xs zero x h =
    let lt = slice_get_within xs 0 x h in
    rw (take_more xs 0 x lt, get_or_from_slice_get xs 0 x x h) refl
join_more c f xs (suc i) x h =
    let lt = slice_get_within xs (suc i) x h in
    let some : 0 < length (map f (take (suc i) xs)) = simp (length-map, length-take-le (suc i) xs (omega arith)) (omega arith) in
    rw (take_more xs (suc i) x lt, get_or_from_slice_get xs (suc i) x x h, map-append f (take (suc i) xs) (x ∷ []))
    (join_last c (map f (take (suc i) xs)) (f x) some)

-- a text to which an item was added, after what stands between
pub text_more : {A : Type 0} (c : ℕ) (f : A → List ℕ) (xs : List A) (i : ℕ) (x : A) (t0 t1 t2 t3 : List ℕ) → slice_get xs i ≡ Some x →
    t1 ≡ t0 ++ join_with_byte c (map f (take i xs)) → t2 ≡ t1 ++ between c i → t3 ≡ t2 ++ f x → t3 ≡ t0 ++ join_with_byte c (map f (take (i + 1) xs))
text_more c f xs i x t0 t1 t2 t3 h e1 e2 e3 = rw (e3, e2, e1, join_more c f xs i x h) (simp append_assoc)
