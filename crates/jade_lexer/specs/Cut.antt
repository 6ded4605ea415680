-- What the tokens of a text are, and what is refused of it first, as relations: the text is cut into blanks and longest tokens. They hold exactly of
-- what the reading says.
use Rattle.std.specs.Prelude.{◌≡◌, ℕ, ◌+◌, ◌<◌, ◌≤◌, true, false, not, ◌==◌, List, [], ◌∷◌, ◌++◌, length, take, drop, slice_index, All}
use Rattle.std.specs.List.{list_all}
use Rattle.jade_base.specs.declared.place.Pos.{Pos}
use Rattle.jade_lexer.specs.declared.lexeme.LexError.{LexError}
use Rattle.jade_lexer.specs.declared.lexeme.LexError.TheVariants.{Byte, Number, Deep}
use Rattle.jade_lexer.specs.declared.lexer.Spot.{Spot}
use Rattle.jade_lexer.specs.Alphabet.{is_separator, is_run, is_token, is_number, is_opener}
use Rattle.jade_alphabet.specs.Letters.{is_word}
use Rattle.jade_alphabet.specs.declared.TheConstants.{WORD_LIMIT, DEPTH_LIMIT}
use Rattle.jade_lexer.specs.Lexemes.{TokenAt, TokenList}
use Rattle.jade_lexer.specs.Reading.{first_spot, spot_after, depth_after, pos_after, begins_comment}

-- a line could end before these bytes: with a line feed, or with the text
abbrev pub EndsLine : List ℕ → Type 0
EndsLine [] = Unit {0}
EndsLine (b ∷ bytes) = b ≡ 10

-- bytes that mean nothing, before others: one separator, or a comment with no line feed in it
pub data IsBlank : List ℕ → List ℕ → Type 0 where
  one_separator : {b : ℕ} {after : List ℕ} → is_separator b ≡ true → IsBlank (b ∷ []) after
  comment : {blank after : List ℕ} → begins_comment blank ≡ true → list_all (λ b. not (b == 10)) blank ≡ true → EndsLine after → IsBlank blank after

-- the longest token before these bytes, where neither a separator nor a comment begins
pub record IsLongest (token after : List ℕ) : Type 0 where
  pub no_separator : is_separator (slice_index token 0) ≡ false
  pub no_comment : begins_comment (token ++ after) ≡ false
  pub a_token : is_token token ≡ true
  pub longest : (n : ℕ) → length token < n → n ≤ length (token ++ after) → is_token (take n (token ++ after)) ≡ false

-- a token keeps the rules where so many brackets are open: a word has at most 64 bytes, a run of digits is a number, and fewer than 64 brackets are
-- open before an opening one
pub record IsSound (depth : ℕ) (token after : List ℕ) : Type 0 where
  pub short : is_word token ≡ true → length token ≤ WORD_LIMIT
  pub number : is_run token ≡ true → is_number token after ≡ true
  pub shallow : is_opener (slice_index token 0) ≡ true → depth < DEPTH_LIMIT

-- a token breaks a rule, and this is what is refused: the 65th byte of a word, the first of a run of digits, or an opening bracket
pub data Breaks (spot : Spot) (token after : List ℕ) (error : LexError) : Type 0 where
  long_word : is_word token ≡ true → WORD_LIMIT < length token → error ≡ Byte (pos_after spot.pos (take WORD_LIMIT token)) → Breaks spot token after error
  bad_number : is_run token ≡ true → is_number token after ≡ false → error ≡ Number spot.pos → Breaks spot token after error
  deep : is_opener (slice_index token 0) ≡ true → DEPTH_LIMIT ≤ spot.depth → error ≡ Deep spot.pos → Breaks spot token after error

-- bytes that stand at a spot are cut into these tokens, and end at this position
pub data Cut (end : Pos) : Spot → List ℕ → List TokenAt → Type 0 where
  nothing : {spot : Spot} → end ≡ spot.pos → Cut end spot [] []
  blank : {spot : Spot} {bytes : List ℕ} {tokens : List TokenAt} → (front after : List ℕ) → bytes ≡ front ++ after → IsBlank front after
      → Cut end (spot_after spot front spot.depth) after tokens → Cut end spot bytes tokens
  token : {spot : Spot} {bytes : List ℕ} {t : TokenAt} {tokens : List TokenAt} → (after : List ℕ) → bytes ≡ t.bytes ++ after → t.start ≡ spot.start → t.pos
      ≡ spot.pos → IsLongest t.bytes after → IsSound spot.depth t.bytes after
      → Cut end (spot_after spot t.bytes (depth_after spot.depth (slice_index t.bytes 0))) after tokens → Cut end spot bytes (t ∷ tokens)

-- bytes that stand at a spot are cut into blanks and sound tokens up to a place where this is refused: no token begins there, or the longest one breaks a rule
pub data Stops (error : LexError) : Spot → List ℕ → Type 0 where
  after_blank : {spot : Spot} {bytes : List ℕ} → (front after : List ℕ) → bytes ≡ front ++ after → IsBlank front after
      → Stops error (spot_after spot front spot.depth) after → Stops error spot bytes
  after_token : {spot : Spot} {bytes : List ℕ} → (front after : List ℕ) → bytes ≡ front ++ after → IsLongest front after → IsSound spot.depth front after
      → Stops error (spot_after spot front (depth_after spot.depth (slice_index front 0))) after → Stops error spot bytes
  no_token : {spot : Spot} {bytes : List ℕ} → 0 < length bytes → is_separator (slice_index bytes 0) ≡ false → begins_comment bytes ≡ false
      → ((n : ℕ) → 0 < n → n ≤ length bytes → is_token (take n bytes) ≡ false) → error ≡ Byte spot.pos → Stops error spot bytes
  breaks : {spot : Spot} {bytes : List ℕ} → (front after : List ℕ) → bytes ≡ front ++ after → IsLongest front after → Breaks spot front after error
      → Stops error spot bytes

-- a text is cut into these tokens
abbrev pub IsCut : List ℕ → TokenList → Type 0
IsCut text tokens = Cut tokens.end first_spot text tokens.lexemes

-- this is what is refused first in a text
abbrev pub IsRefused : List ℕ → LexError → Type 0
IsRefused text error = Stops error first_spot text

-- a token is the part of the text that begins where it says, at the position of that byte
pub record StandsIn (text : List ℕ) (t : TokenAt) : Type 0 where
  pub bytes : t.bytes ≡ take (length t.bytes) (drop t.start text)
  pub pos : t.pos ≡ pos_after first_spot.pos (take t.start text)

-- from this byte on the tokens follow one another with none within another
abbrev pub InOrder : ℕ → List TokenAt → Type 0
InOrder from [] = Unit {0}
InOrder from (t ∷ ts) = (from ≤ t.start) × (0 < length t.bytes) × InOrder (t.start + length t.bytes) ts

-- where the tokens of a text stand in it
pub record Spans (text : List ℕ) (tokens : TokenList) : Type 0 where
  pub each : All (StandsIn text) tokens.lexemes
  pub order : InOrder 0 tokens.lexemes
  pub end : tokens.end ≡ pos_after first_spot.pos text
