-- The bytes that words are made of.
use Rattle.std.specs.Prelude.{ℕ, Bool, false, ◌&&◌, ◌||◌, ◌==◌, List, [], ◌∷◌}
use Rattle.std.specs.List.{list_all}
use Rattle.std.specs.Char.{is_ascii_digit, is_ascii_alphabetic}

-- an ASCII letter or `_`
abbrev pub is_letter : ℕ → Bool
is_letter b = is_ascii_alphabetic b || b == 95

-- a letter, a digit or `_`
abbrev pub is_letter_or_digit : ℕ → Bool
is_letter_or_digit b = is_letter b || is_ascii_digit b

-- a word of any length: a letter, and then letters and digits
abbrev pub is_word : List ℕ → Bool
is_word [] = false
is_word (b ∷ bytes) = is_letter b && list_all is_letter_or_digit bytes
