-- Words that spell numbers with their signs.
use Rattle.std.proofs.Common.{◌≡◌, ℕ, zero, suc, Bool, true, false, ◌&&◌, ℤ, List, [], ◌∷◌, map, Some, refl, ap, sym, ◌∙◌}
use Rattle.std.specs.List.{list_all, slice_get}
use Rattle.std.specs.Fmt.{signed_decimal}
use Rattle.number_words.specs.Numbers.{is_number}

pub and_first : (a b : Bool) → (a && b) ≡ true → a ≡ true
and_first true b h = refl
and_first false b h = absurd (cc)

pub and_second : (a b : Bool) → (a && b) ≡ true → b ≡ true
and_second true b h = h
and_second false b h = absurd (cc)

some_is : (v w : List ℕ) → Some v ≡ Some w → v ≡ w
some_is v w e = cc

-- a word among those that spell numbers spells one
pub number_at : (numbers : List ℤ) (words : List (List ℕ)) (i : ℕ) (w : List ℕ) → words ≡ map signed_decimal numbers → list_all is_number numbers ≡ true →
    slice_get words i ≡ Some w → (z : ℤ) × (is_number z ≡ true) × (w ≡ signed_decimal z)
number_at [] words i w e f h = let g : slice_get (map signed_decimal []) i ≡ Some w = ap (λ ws. slice_get ws i) (sym e) ∙ h in absurd (cc)
number_at (z ∷ numbers) words zero w e f h =
    let g : Some (signed_decimal z) ≡ Some w = ap (λ ws. slice_get ws 0) (sym e) ∙ h in
    (z, and_first _ _ f, some_is _ _ (sym g))
number_at (z ∷ numbers) words (suc i) w e f h =
    number_at numbers (map signed_decimal numbers) i w refl (and_second _ _ f) (ap (λ ws. slice_get ws (suc i)) (sym e) ∙ h)
