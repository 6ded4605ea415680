-- Names that are made are names, unless they are too long.
use Rattle.std.proofs.Common.{◌≡◌, ℕ, zero, suc, ◌/◌, ◌%◌, ◌<◌, ◌==◌, Bool, true, false, ◌&&◌, List, [], ◌∷◌, length, refl, ap, ◌∙◌, arith}
use Rattle.std.proofs.lemmas.Bool.Decides.{nat_tests}
use Rattle.std.specs.Prelude.{nat_le, if◌then◌else◌}
use Rattle.std.specs.List.{list_all}
use Rattle.std.specs.Fmt.{digits_onto, digit_glyph}
use Rattle.jade_alphabet.specs.declared.TheConstants.{WORD_LIMIT}
use Rattle.jade_alphabet.specs.Letters.{is_letter_or_digit, is_word}
use Rattle.jade_syntax.specs.Abstract.{Name}
use Rattle.jade_syntax.specs.Names.{is_name}
use Rattle.proc_expand.specs.Written.{fresh_name, free_number}

glyph_digit : (d : ℕ) → d < 10 → is_letter_or_digit (digit_glyph false d) ≡ true
glyph_digit d h = grind (arith, nat_tests, h)

digits_spelled : (k n : ℕ) (acc : List ℕ) → list_all is_letter_or_digit acc ≡ true → list_all is_letter_or_digit (digits_onto k 10 false n acc) ≡ true
digits_spelled zero n acc h = h
digits_spelled (suc k) n acc h =
    by (n / 10 == 0) (digits_spelled k (n / 10) (digit_glyph false (n % 10) ∷ acc))
  where
    more : list_all is_letter_or_digit (digit_glyph false (n % 10) ∷ acc) ≡ true
    more = ap (λ t. t && list_all is_letter_or_digit acc) (glyph_digit (n % 10) (omega arith)) ∙ h

    by : (b : Bool) → (list_all is_letter_or_digit (digit_glyph false (n % 10) ∷ acc) ≡ true
        → list_all is_letter_or_digit (digits_onto k 10 false (n / 10) (digit_glyph false (n % 10) ∷ acc)) ≡ true)
        → list_all is_letter_or_digit (if b then digit_glyph false (n % 10) ∷ acc else digits_onto k 10 false (n / 10) (digit_glyph false (n % 10) ∷ acc)) ≡ true
    by true go = more
    by false go = go more

with_v : (xs : List ℕ) → list_all is_letter_or_digit xs ≡ true → nat_le (length (118 ∷ xs)) WORD_LIMIT ≡ true → is_name (118 ∷ xs) ≡ true
with_v xs h l = λ i. l i && h i && true

pub fresh_is_name : (names : List Name) (i : ℕ) → nat_le (length (fresh_name names i)) WORD_LIMIT ≡ true → is_name (fresh_name names i) ≡ true
fresh_is_name names i l = with_v (digits_onto (suc (free_number names i)) 10 false (free_number names i) []) (digits_spelled (suc (free_number names i)) (free_number names i) [] refl) l

pub fresh_is_word : (names : List Name) (i : ℕ) → is_word (fresh_name names i) ≡ true
fresh_is_word names i = digits_spelled (suc (free_number names i)) (free_number names i) [] refl
