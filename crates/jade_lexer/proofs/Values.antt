-- The values of digits.
use Rattle.std.proofs.Common.{◌≡◌, ℕ, ◌+◌, ◌-◌, ◌*◌, ◌<◌, ◌≤◌, false, List, [], ◌∷◌, length, get_or, drop, drop-cons, refl, add-one, arith}
use Rattle.std.proofs.Math.Dec.{leb}
use Rattle.std.proofs.lemmas.Bool.{lt-leb}
use Rattle.jade_lexer.specs.Alphabet.{value_after}

-- more digits don't make a value smaller
value_after-ge : (n : ℕ) (digits : List ℕ) → n ≤ value_after n digits
value_after-ge n [] = omega arith
value_after-ge n (d ∷ digits) = omega (arith, value_after-ge (10 * n + (d - 48)) digits)

-- one more digit read
pub value_step : (n : ℕ) (digits : List ℕ) (i : ℕ) → i < length digits → value_after n (drop i digits)
    ≡ value_after (10 * n + (get_or digits i 0 - 48)) (drop (i + 1) digits)
value_step n digits i within = rw (add-one, drop-cons digits i 0) refl

-- a value past the limit stays past it
pub value_past : (limit n : ℕ) (digits : List ℕ) (i : ℕ) → i < length digits → limit < 10 * n + (get_or digits i 0 - 48)
    → leb (value_after n (drop i digits)) limit ≡ false
value_past limit n digits i within past =
    rw (value_step n digits i within)
    (lt-leb (value_after (10 * n + (get_or digits i 0 - 48)) (drop (i + 1) digits)) limit
    (omega (arith, value_after-ge (10 * n + (get_or digits i 0 - 48)) (drop (i + 1) digits))))
