-- What the lexemes of a text are to a contract.
use Rattle.std.specs.Prelude.{ℕ, List}
use Rattle.jade_base.specs.declared.place.Pos.{Pos}
use Rattle.jade_lexer.specs.declared.lexeme.Lexeme.{Lexeme}

-- a token of a text: its bytes, at which byte of the text it begins, and the position of that byte
pub record TokenAt : Type 0 where
  pub bytes : List ℕ
  pub start : ℕ
  pub pos : Pos

-- the tokens of a whole text, and the position of its end
pub record TokenList : Type 0 where
  pub lexemes : List TokenAt
  pub end : Pos

-- a lexeme without where its bytes lie in memory
abbrev pub token_of : Lexeme → TokenAt
token_of l = record { bytes = l.text.now; start = l.start; pos = l.pos }
