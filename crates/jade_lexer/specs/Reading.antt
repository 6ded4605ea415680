-- How a text reads: as its tokens in order, or as the first refusal. Each text has one reading, since it is a function of the text.
use Rattle.std.specs.Prelude.{
  ◌≡◌,
  ℕ,
  Bool,
  zero,
  suc,
  ◌+◌,
  ◌-◌,
  not,
  ◌&&◌,
  ◌==◌,
  nat_lt,
  nat_le,
  List,
  [],
  ◌∷◌,
  length,
  take,
  drop,
  slice_index,
  Result,
  Ok,
  Err,
  if◌then◌else◌,
}
use Rattle.std.specs.List.{prefix_len}
use Rattle.std.specs.Char.{is_ascii_digit}
use Rattle.jade_base.specs.declared.place.Pos.{Pos}
use Rattle.jade_lexer.specs.declared.lexeme.LexError.{LexError}
use Rattle.jade_lexer.specs.declared.lexeme.LexError.TheVariants.{Byte, Number, Deep, Memory}
use Rattle.jade_lexer.specs.declared.lexer.Part.{Part}
use Rattle.jade_lexer.specs.declared.lexer.Part.TheVariants.{Blank, Token}
use Rattle.jade_lexer.specs.declared.lexer.Spot.{Spot}
use Rattle.jade_lexer.specs.Alphabet.{is_separator, is_number, is_opener, is_closer, longest}
use Rattle.jade_alphabet.specs.Letters.{is_letter}
use Rattle.jade_alphabet.specs.declared.TheConstants.{WORD_LIMIT, DEPTH_LIMIT}
use Rattle.jade_lexer.specs.Lexemes.{TokenAt, TokenList}

-- the position after a byte: a line ends with a line feed, and any other byte is one column
abbrev pub next_pos : Pos → ℕ → Pos
next_pos pos b =
    if b == 10 then record { line = pos.line + 1; column = 1 } else record { line = pos.line; column = pos.column + 1 }

-- the position after some bytes
abbrev pub pos_after : Pos → List ℕ → Pos
pos_after pos [] = pos
pos_after pos (b ∷ bytes) = pos_after (next_pos pos b) bytes

-- the number of open brackets after a token that begins with this byte
abbrev pub depth_after : ℕ → ℕ → ℕ
depth_after depth b = if is_opener b then depth + 1 else (if is_closer b then depth - 1 else depth)

-- the spot after some bytes, at which so many brackets are open
abbrev pub spot_after : Spot → List ℕ → ℕ → Spot
spot_after spot bytes depth =
    record { start = spot.start + length bytes; pos = pos_after spot.pos bytes; depth = depth }

-- these bytes begin with `//`
abbrev pub begins_comment : List ℕ → Bool
begins_comment bytes = slice_index bytes 0 == 47 && slice_index bytes 1 == 47

-- what a longest token at a spot comes to, before the bytes that follow it: a word, which begins with a letter, has at most 64 bytes; a run of digits
-- is a number; at most 64 brackets are open
abbrev pub token_part : Spot → List ℕ → List ℕ → Result Part LexError
token_part spot token after =
    if length token == 0 then Err (Byte spot.pos)
    else (if is_letter (slice_index token 0) && nat_lt WORD_LIMIT (length token) then Err (Byte (pos_after spot.pos (take WORD_LIMIT token)))
    else (if is_ascii_digit (slice_index token 0) && not (is_number token after) then Err (Number spot.pos)
    else (if is_opener (slice_index token 0) && nat_le DEPTH_LIMIT spot.depth then Err (Deep spot.pos)
    else Ok (Token (length token)))))

-- what stands first at a spot: a separator, a comment up to its line feed or the end, a token, or what is refused
abbrev pub first_part : Spot → List ℕ → Result Part LexError
first_part spot bytes =
    if is_separator (slice_index bytes 0) then Ok (Blank 1)
    else (if begins_comment bytes then Ok (Blank (prefix_len (λ c. not (c == 10)) bytes))
    else token_part spot (take (longest bytes) bytes) (drop (longest bytes) bytes))

-- how many bytes a part has
abbrev pub part_length : Part → ℕ
part_length (Blank n) = n
part_length (Token n) = n

-- the whole list of tokens with the position of the end, or the first refusal
pub data Reading : Type 0 where
  Whole : TokenList → Reading
  Refused : LexError → Reading

-- a token before the rest of a reading
abbrev pub add : TokenAt → Reading → Reading
add token (Whole tokens) = Whole (record { lexemes = token ∷ tokens.lexemes; end = tokens.end })
add token (Refused error) = Refused error

-- the reading of bytes that begin with this part, where `rest n after` is how they read once n bytes more than the first are passed
abbrev pub part_reading : Spot → List ℕ → Result Part LexError → (ℕ → Spot → Reading) → Reading
part_reading spot bytes (Err error) rest = Refused error
part_reading spot bytes (Ok (Blank n)) rest = rest (n - 1) (spot_after spot (take n bytes) spot.depth)
part_reading spot bytes (Ok (Token n)) rest =
    add (record { bytes = take n bytes; start = spot.start; pos = spot.pos })
    (rest (n - 1) (spot_after spot (take n bytes) (depth_after spot.depth (slice_index bytes 0))))

-- the reading of some bytes, of which so many are passed before the spot is reached
abbrev pub read_from : ℕ → Spot → List ℕ → Reading
read_from passed spot [] = Whole (record { lexemes = []; end = spot.pos })
read_from (suc passed) spot (b ∷ bytes) = read_from passed spot bytes
read_from zero spot (b ∷ bytes) =
    part_reading spot (b ∷ bytes) (first_part spot (b ∷ bytes)) (λ n after. read_from n after bytes)

-- where every text begins
abbrev pub first_spot : Spot
first_spot = record { start = 0; pos = record { line = 1; column = 1 }; depth = 0 }

-- the reading of a text
abbrev pub reading : List ℕ → Reading
reading text = read_from 0 first_spot text

-- an error is the text's refusal; want of memory says nothing of the text
abbrev pub IsRefusal : Reading → LexError → Type 0
IsRefusal r (Byte p) = r ≡ Refused (Byte p)
IsRefusal r (Number p) = r ≡ Refused (Number p)
IsRefusal r (Deep p) = r ≡ Refused (Deep p)
IsRefusal r Memory = Unit {0}
