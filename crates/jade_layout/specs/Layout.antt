-- The printed layout of tokens: what stands between each two that are neighbours.
use Rattle.std.specs.Prelude.{ℕ, zero, suc, ◌+◌, ◌-◌, Bool, false, not, ◌&&◌, ◌||◌, List, [], ◌∷◌, ◌++◌, codes, if◌then◌else◌}
use Rattle.std.specs.List.{list_any}
use Rattle.std.specs.Char.{is_ascii_digit}
use Rattle.jade_syntax.specs.Names.{is_reserved, declare_words}
use Rattle.jade_alphabet.specs.Letters.{is_letter}
use Rattle.jade_syntax.specs.Numbering.{same_name}
use Rattle.jade_layout.specs.Spelling.{Token, Tokens}

-- the token is one of these
abbrev pub is_among : Tokens → Token → Bool
is_among ts t = list_any (same_name t) ts

-- the token is `{`
abbrev pub opens_block : Token → Bool
opens_block t = same_name t (codes "{")

-- the token is `}`
abbrev pub closes_block : Token → Bool
closes_block t = same_name t (codes "}")

-- a number: it begins with a digit
abbrev pub is_number : Token → Bool
is_number [] = false
is_number (b ∷ bytes) = is_ascii_digit b

-- a name: it begins as a word and is not reserved
abbrev pub is_free_word : Token → Bool
is_free_word [] = false
is_free_word (b ∷ bytes) = is_letter b && not (is_reserved (b ∷ bytes))

-- an operand can end with this token
abbrev pub ends_operand : Token → Bool
ends_operand t = is_among (codes "true" ∷ codes "false" ∷ codes ")" ∷ codes "]" ∷ []) t || is_number t || is_free_word t

-- a unary operator: `!`, or a `-` after a token that can end no operand
abbrev pub is_sign : (before t : Token) → Bool
is_sign before t = same_name t (codes "!") || (same_name t (codes "-") && not (ends_operand before))

-- the blocks that are open after a token
abbrev pub depth_after : ℕ → Token → ℕ
depth_after depth t = if opens_block t then depth + 1 else (if closes_block t then depth - 1 else depth)

-- the blocks that are open at the beginning of a line: a brace that begins it counts as closed already
abbrev pub depth_before : ℕ → Token → ℕ
depth_before depth t = if closes_block t then depth - 1 else depth

-- a new line begins between two tokens
abbrev pub breaks : (first second : Token) → Bool
breaks first second =
    same_name first (codes ";") || (opens_block first && not (closes_block second))
    || (closes_block first && not (is_among (codes "do" ∷ codes "else" ∷ codes "cont" ∷ []) second))
    || (closes_block second && not (opens_block first))

-- two tokens of one line touch; the first may be a unary operator
abbrev pub touches : (first : Token) → Bool → (second : Token) → Bool
touches first sign second =
    sign || is_among (codes "(" ∷ codes "[" ∷ []) first
    || is_among (codes ")" ∷ codes "]" ∷ codes "[" ∷ codes "," ∷ codes ";" ∷ []) second
    || (is_among declare_words first && same_name second (codes "("))

-- four spaces for each open block
abbrev pub indent : ℕ → List ℕ
indent zero = []
indent (suc depth) = codes "    " ++ indent depth

-- what stands between two tokens, the first a unary operator or not, with so many blocks open; nothing stands before the first token of all
abbrev pub gap : (first : Token) → Bool → ℕ → (second : Token) → List ℕ
gap [] sign depth second = []
gap (b ∷ bytes) sign depth second =
    if breaks (b ∷ bytes) second then 10 ∷ indent (depth_before depth second)
    else (if touches (b ∷ bytes) sign second then [] else 32 ∷ [])

-- what follows a token: the gap before the next one, that token, and what follows it; a line feed after the last
abbrev pub follows : (first : Token) → Bool → ℕ → Tokens → List ℕ
follows first sign depth [] = 10 ∷ []
follows first sign depth (t ∷ ts) = gap first sign depth t ++ t ++ follows t (is_sign first t) (depth_after depth t) ts

-- the text of these tokens
abbrev pub layout : Tokens → List ℕ
layout [] = []
layout (t ∷ ts) = t ++ follows t (is_sign [] t) (depth_after 0 t) ts
