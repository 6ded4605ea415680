-- Cells of objects.
use Rattle.std.proofs.Common.{◌≡◌, ℕ, zero, suc, ◌++◌, append_assoc, replicate, ◌+◌, ◌<◌, List, [], ◌∷◌, refl, ap, sym, ◌∙◌, length, map}
use Rattle.std.specs.Prelude.{ℤ, pos, slice_index_or, slice_set}
use Rattle.std.proofs.lemmas.List.{get_or-map, map-set, map-append, replicate_more}
use Rattle.jade_syntax.specs.declared.tree.Item.{Item}
use Rattle.jade_syntax.specs.Objects.{sizes}
use Rattle.jade_meaning.specs.Serial.{Store, with_cell, zeros}

-- a write to an item of an item
pub put_in : {A : Type 0} (f : A → List ℤ) (l : List A) (o c : ℕ) (v : ℤ) (a b : A) → o < length l → a ≡ slice_index_or l o a → f b ≡ slice_set (f a) c v
    → map f (slice_set l o b) ≡ with_cell (map f l) o c v
put_in f l o c v a b lt e g =
    map-set f l o b ∙ ap (slice_set (map f l) o) (g ∙ ap (λ x. slice_set x c v) (ap f e ∙ sym (get_or-map f l o a [] lt)))

zeros_of : (m n : ℕ) (ns : List ℕ) → zeros (replicate m n ++ ns) ≡ replicate m (replicate n (pos 0)) ++ zeros ns
zeros_of zero n ns = refl
zeros_of (suc m) n ns = ap (λ s. replicate n (pos 0) ∷ s) (zeros_of m n ns)

-- the objects of one more item
pub more_objects : (old new : Store) (x : Item) (rest : List Item) (m n : ℕ) (all : Store) → new ≡ old ++ replicate m (replicate n (pos 0))
    → sizes (x ∷ rest) ≡ replicate m n ++ sizes rest → old ++ zeros (sizes (x ∷ rest)) ≡ all → new ++ zeros (sizes rest) ≡ all
more_objects old new x rest m n all e h made =
    ap (λ s. s ++ zeros (sizes rest)) e ∙ append_assoc old (replicate m (replicate n (pos 0))) (zeros (sizes rest))
    ∙ ap (λ s. old ++ s) (sym (zeros_of m n (sizes rest))) ∙ ap (λ s. old ++ zeros s) (sym h) ∙ made

-- one more object
pub one_more_object : {A : Type 0} (f : A → List ℤ) (first old new : List A) (v : A) (k n : ℕ) → new ≡ old ++ v ∷ [] → f v ≡ replicate n (pos 0)
    → map f old ≡ map f first ++ replicate k (replicate n (pos 0)) → map f new ≡ map f first ++ replicate (k + 1) (replicate n (pos 0))
one_more_object f first old new v k n e g made =
    ap (map f) e ∙ map-append f old (v ∷ []) ∙ ap (λ c. map f old ++ c ∷ []) g ∙ ap (λ s. s ++ replicate n (pos 0) ∷ []) made
    ∙ append_assoc (map f first) (replicate k (replicate n (pos 0))) (replicate n (pos 0) ∷ [])
    ∙ ap (λ s. map f first ++ s) (replicate_more k (replicate n (pos 0)))
