-- The bytes and the tokens of the language, by their classes, and the longest token that begins some bytes.
use Rattle.std.specs.Prelude.{
  ℕ,
  zero,
  suc,
  ◌+◌,
  ◌*◌,
  ◌-◌,
  Bool,
  false,
  not,
  ◌&&◌,
  ◌||◌,
  ◌==◌,
  nat_le,
  List,
  [],
  ◌∷◌,
  length,
  take,
  codes,
  slice_index,
  if◌then◌else◌,
}
use Rattle.std.specs.List.{list_any, list_all}
use Rattle.std.specs.Char.{is_ascii_digit}
use Rattle.jade_alphabet.specs.Letters.{is_letter, is_word}
use Rattle.jade_alphabet.specs.declared.TheConstants.{GREATEST_NUMBER}

-- a space, a tab, a carriage return or a line feed
abbrev pub is_separator : ℕ → Bool
is_separator b = b == 32 || b == 9 || b == 13 || b == 10

-- one of ( [ {
abbrev pub is_opener : ℕ → Bool
is_opener b = b == 40 || b == 91 || b == 123

-- one of ) ] }
abbrev pub is_closer : ℕ → Bool
is_closer b = b == 41 || b == 93 || b == 125

-- one or more digits
abbrev pub is_run : List ℕ → Bool
is_run [] = false
is_run (b ∷ bytes) = is_ascii_digit b && list_all is_ascii_digit bytes

-- a symbol of one byte
abbrev pub is_single : ℕ → Bool
is_single b = list_any (λ c. c == b) (codes "{}()[];:,=<>+-*/%!")

-- a symbol of two bytes: == != <= >= && || ..
abbrev pub is_pair : ℕ → ℕ → Bool
is_pair a b = (b == 61 && list_any (λ c. c == a) (codes "=!<>")) || (b == a && list_any (λ c. c == a) (codes "&|."))

-- a symbol, of one byte or of two
abbrev pub is_symbol : List ℕ → Bool
is_symbol [] = false
is_symbol (a ∷ []) = is_single a
is_symbol (a ∷ b ∷ []) = is_pair a b
is_symbol (a ∷ b ∷ c ∷ bytes) = false

-- a word of any length, a run of digits of any value, or a symbol
abbrev pub is_token : List ℕ → Bool
is_token bytes = is_word bytes || is_run bytes || is_symbol bytes

-- the greatest number up to n that passes, and 0 where none but 0 does
abbrev pub greatest : (ℕ → Bool) → ℕ → ℕ
greatest p zero = 0
greatest p (suc n) = if p (suc n) then suc n else greatest p n

-- the length of the longest token that begins these bytes, and 0 where none does
abbrev pub longest : List ℕ → ℕ
longest bytes = greatest (λ n. is_token (take n bytes)) (length bytes)

-- the number that these digits write after those that write n
abbrev pub value_after : ℕ → List ℕ → ℕ
value_after n [] = n
value_after n (d ∷ digits) = value_after (10 * n + (d - 48)) digits

-- a run of digits, before these bytes, is a number: it has no needless 0 in front, its value is at most the greatest number, and no letter follows
abbrev pub is_number : List ℕ → List ℕ → Bool
is_number run after =
    (length run == 1 || not (slice_index run 0 == 48)) && nat_le (value_after 0 run) GREATEST_NUMBER
    && not (is_letter (slice_index after 0))
