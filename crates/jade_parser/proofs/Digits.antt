-- The values of digits.
use Rattle.std.proofs.Common.{◌≡◌, ℕ, ◌+◌, ◌-◌, ◌*◌, ◌<◌, ◌≤◌, Bool, true, false, ◌&&◌, List, [], ◌∷◌, length}
use Rattle.std.proofs.Common.{get_or, drop, drop-cons, refl, sym, ap, ◌∙◌, add-one, arith}
use Rattle.std.proofs.Math.Dec.{leb}
use Rattle.std.specs.List.{list_all}
use Rattle.std.specs.Char.{is_ascii_digit}
use Rattle.std.proofs.lemmas.Bool.{lt-leb, le-leb}
use Rattle.std.proofs.lemmas.List.{drop_all}
use Rattle.jade_lexer.specs.Alphabet.{value_after, is_run}
use Rattle.jade_parser.specs.Kinds.{is_small_run, IsValue}

-- more digits don't make a value smaller
value_after-ge : (n : ℕ) (digits : List ℕ) → n ≤ value_after n digits
value_after-ge n [] = omega arith
value_after-ge n (d ∷ digits) = omega (arith, value_after-ge (10 * n + (d - 48)) digits)

-- one more digit read
pub value_step : (n : ℕ) (digits : List ℕ) (i : ℕ) → i < length digits → value_after n (drop i digits)
    ≡ value_after (10 * n + (get_or digits i 0 - 48)) (drop (i + 1) digits)
value_step n digits i within = rw (add-one, drop-cons digits i 0) refl

pub digits_step : (bytes : List ℕ) (i : ℕ) → i < length bytes → list_all is_ascii_digit (drop i bytes)
    ≡ (is_ascii_digit (get_or bytes i 0) && list_all is_ascii_digit (drop (i + 1) bytes))
digits_step bytes i within = rw (add-one, drop-cons bytes i 0) refl

-- a value past the limit stays past it
value_past : (limit n : ℕ) (digits : List ℕ) (i : ℕ) → i < length digits → limit < 10 * n + (get_or digits i 0 - 48)
    → leb (value_after n (drop i digits)) limit
    ≡ false
value_past limit n digits i within past =
    rw (value_step n digits i within)
    (lt-leb (value_after (10 * n + (get_or digits i 0 - 48)) (drop (i + 1) digits)) limit
    (omega (arith, value_after-ge (10 * n + (get_or digits i 0 - 48)) (drop (i + 1) digits))))

pub run_is : (bytes : List ℕ) → 0 < length bytes → is_run bytes ≡ list_all is_ascii_digit bytes
run_is [] h = absurd (omega arith)
run_is (b ∷ bytes) h = refl

-- one byte is no digit
pub not_digits : (bytes : List ℕ) (i : ℕ) → i < length bytes → list_all is_ascii_digit (drop i bytes) ≡ list_all is_ascii_digit bytes
    → is_ascii_digit (get_or bytes i 0) ≡ false → is_small_run bytes ≡ false
not_digits bytes i within same h =
    let nonempty : 0 < length bytes = omega arith in
    let all : is_run bytes ≡ false = run_is bytes nonempty ∙ sym same ∙ digits_step bytes i within
    ∙ ap (λ b. b && list_all is_ascii_digit (drop (i + 1) bytes)) h in
    ap (λ b. b && leb (value_after 0 bytes) 9223372036854775807) all

and_false : (b c : Bool) → c ≡ false → (b && c) ≡ false
and_false true c h = h
and_false false c h = refl

-- the value goes past the limit
pub not_small : (bytes : List ℕ) (i n : ℕ) → i < length bytes → value_after n (drop i bytes) ≡ value_after 0 bytes
    → 9223372036854775807 < 10 * n + (get_or bytes i 0 - 48) → is_small_run bytes ≡ false
not_small bytes i n within same past =
    and_false (is_run bytes) (leb (value_after 0 bytes) 9223372036854775807)
    (ap (λ v. leb v 9223372036854775807) (sym same) ∙ value_past 9223372036854775807 n bytes i within past)

pub is_value : (bytes : List ℕ) (i n : ℕ) → 0 < length bytes → length bytes ≤ i → value_after n (drop i bytes) ≡ value_after 0 bytes
    → list_all is_ascii_digit (drop i bytes) ≡ list_all is_ascii_digit bytes → n ≤ 9223372036854775807 → IsValue bytes n
is_value bytes i n nonempty end same digits small =
    let e : drop i bytes ≡ [] = drop_all i bytes end in
    let v : n ≡ value_after 0 bytes = ap (value_after n) (sym e) ∙ same in
    let d : is_run bytes ≡ true = run_is bytes nonempty ∙ sym digits ∙ ap (list_all is_ascii_digit) e in
    let s : leb (value_after 0 bytes) 9223372036854775807 ≡ true = le-leb (value_after 0 bytes) 9223372036854775807 (omega arith) in
    record { run = ap (λ b. b && leb (value_after 0 bytes) 9223372036854775807) d ∙ s; value = v; small = small }
