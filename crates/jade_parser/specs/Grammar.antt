-- What a text's tokens read as: a program, or the first token that is refused. A token is its bytes and its place.
use Rattle.std.specs.Prelude.{◌≡◌, ℕ, zero, suc, ◌+◌, ◌<◌, ◌≤◌, List, [], ◌∷◌, ◌++◌, map, take, length}
use Rattle.jade_base.specs.declared.place.Pos.{Pos}
use Rattle.jade_lexer.specs.Lexemes.{TokenAt, TokenList}
use Rattle.jade_syntax.specs.declared.tree.Program.{Program}
use Rattle.jade_parser.specs.declared.ParseError.{ParseError}
use Rattle.jade_parser.specs.declared.ParseError.TheVariants.{Token as AtToken, Long, Memory}
use Rattle.jade_parser.specs.Spelled.{Part, Parts, tokens_of, AllValid, AllShort}
use Rattle.jade_parser.specs.Kinds.{token_bytes}
use Rattle.jade_parser.specs.Programs.{program_parts, Proper}
use Rattle.jade_parser.specs.Spelled.{Agrees}

-- the bytes of each part
abbrev pub bytes_of : Parts → List (List ℕ)
bytes_of ps = map token_bytes (tokens_of ps)

-- the bytes of each token
abbrev pub texts : TokenList → List (List ℕ)
texts ts = map (λ t. t.bytes) ts.lexemes

-- the place of each token
abbrev pub positions : TokenList → List Pos
positions ts = map (λ t. t.pos) ts.lexemes

-- the statements stand where the grammar has them, names are names, and numbers are from 0 to 2 ^ 63 - 1
pub record IsProgram (p : Program) : Type 0 where
  pub proper : Proper p
  pub valid : AllValid (program_parts p)

-- the tokens are the program's, each place that the tree keeps of a token is that token's, and no outermost expression has more than 256 tokens
pub record IsReading (ts : TokenList) (p : Program) : Type 0 where
  pub spelled : bytes_of (program_parts p) ≡ texts ts
  pub placed : Agrees (positions ts) 0 (program_parts p)
  pub sound : IsProgram p
  pub short : AllShort (program_parts p)

-- a program of any size has tokens that begin with these
pub record IsBegun (ts : List (List ℕ)) : Type 0 where
  pub program : Program
  pub more : List (List ℕ)
  pub sound : IsProgram program
  pub spelled : bytes_of (program_parts program) ≡ ts ++ more

-- a program has tokens that begin with these, and none of these is past the 256th of an outermost expression
pub record IsBegunShort (ts : List (List ℕ)) : Type 0 where
  pub program : Program
  pub read : Parts
  pub more : Parts
  pub sound : IsProgram program
  pub by : program_parts program ≡ read ++ more
  pub spelled : bytes_of read ≡ ts
  pub short : AllShort read

-- the first k tokens begin a program; with the next they begin none, and they are none with the end
pub record IsRefused (ts : List (List ℕ)) (k : ℕ) : Type 0 where
  pub within : k ≤ length ts
  pub begun : IsBegunShort (take k ts)
  pub no_more : k < length ts → IsBegun (take (k + 1) ts) → ⊥
  pub no_end : (p : Program) → IsProgram p → bytes_of (program_parts p) ≡ ts → ⊥

-- a program begins with the first k tokens and the next one, which is the 257th of an outermost expression, and the first such
pub record IsTooLong (ts : List (List ℕ)) (k : ℕ) : Type 0 where
  pub within : k < length ts
  pub program : Program
  pub read : Parts
  pub last : Part
  pub more : Parts
  pub sound : IsProgram program
  pub by : program_parts program ≡ (read ++ last ∷ []) ++ more
  pub spelled : bytes_of (read ++ last ∷ []) ≡ take (k + 1) ts
  pub short : AllShort read
  pub too_many : last.nth ≡ 257

-- the place of a token of a list, or another where there is none
abbrev pub place_or : List TokenAt → ℕ → Pos → Pos
place_or [] k end = end
place_or (t ∷ ts) zero end = t.pos
place_or (t ∷ ts) (suc k) end = place_or ts k end

-- the place of the token with a number, counted from 0, or of the end
abbrev pub place_of : TokenList → ℕ → Pos
place_of ts k = place_or ts.lexemes k ts.end

-- the tokens are refused at a place: that of the first refused token, or of the end
pub record IsRefusedAt (ts : TokenList) (p : Pos) : Type 0 where
  pub number : ℕ
  pub refused : IsRefused (texts ts) number
  pub at : p ≡ place_of ts number

-- an outermost expression is too long at a place: that of its 257th token
pub record IsTooLongAt (ts : TokenList) (p : Pos) : Type 0 where
  pub number : ℕ
  pub too_long : IsTooLong (texts ts) number
  pub at : p ≡ place_of ts number

-- an error is the tokens' refusal; want of memory says nothing of them
abbrev pub IsRefusal : TokenList → ParseError → Type 0
IsRefusal ts (AtToken p) = IsRefusedAt ts p
IsRefusal ts (Long p) = IsTooLongAt ts p
IsRefusal ts Memory = Unit {0}
