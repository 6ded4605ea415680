-- Lists that are kept with the newest last, and are seen with the newest first.
use Rattle.std.proofs.Common.{◌≡◌, ℕ, ◌+◌, ◌-◌, ◌<◌, List, [], ◌∷◌, ◌++◌, take, drop, length, ap, sym, ◌∙◌}
use Rattle.std.specs.Prelude.{map, reverse, slice_index_or}
use Rattle.std.proofs.lemmas.List.{take_more, map-append, reverse-append, length-reverse, length-map, take-append-drop, length-drop}
use Rattle.std.proofs.Math.Seq.{drop-append_seam}

module _ {A B : Type 0} (f : A → B) where
  -- a list as it is seen
  abbrev pub seen : List A → List B
  seen xs = reverse (map f xs)

  pub both : (xs ys : List A) → seen (xs ++ ys) ≡ seen ys ++ seen xs
  both xs ys = ap reverse (map-append f xs ys) ∙ reverse-append (map f xs) (map f ys)

  pub length_seen : (xs : List A) → length (seen xs) ≡ length xs
  length_seen xs = length-reverse (map f xs) ∙ simp length-map

  -- the newest of the first of a list stands at its place
  pub newest : (xs : List A) (i : ℕ) (x : A) → i < length xs → x ≡ slice_index_or xs i x → seen (take (i + 1) xs) ≡ f x ∷ seen (take i xs)
  newest xs i x lt e = ap seen (take_more xs i x lt) ∙ both (take i xs) (slice_index_or xs i x ∷ []) ∙ ap (λ y. f y ∷ seen (take i xs)) (sym e)

  -- the oldest is seen last
  pub oldest_of : (x : A) (xs : List A) → seen (x ∷ xs) ≡ seen xs ++ f x ∷ []
  oldest_of x xs = both (x ∷ []) xs

  -- the oldest stay
  pub left_with : (xs : List A) (n : ℕ) → seen (take n xs) ≡ drop (length (seen xs) - n) (seen xs)
  left_with xs n =
      let parts = ap seen (sym (take-append-drop n xs)) ∙ both (take n xs) (drop n xs) in
      let many : length (seen (drop n xs)) ≡ length (seen xs) - n = length_seen (drop n xs) ∙ length-drop n xs ∙ ap (λ k. k - n) (sym (length_seen xs)) in
      sym (drop-append_seam (seen (drop n xs)) (seen (take n xs)))
      ∙ ap (λ k. drop k (seen (drop n xs) ++ seen (take n xs))) many
      ∙ ap (drop (length (seen xs) - n)) (sym parts)
