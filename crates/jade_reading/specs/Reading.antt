-- A text that is read as a program.
use Rattle.std.specs.Prelude.{◌≡◌, ℕ, List}
use Rattle.jade_lexer.specs.Lexemes.{TokenList}
use Rattle.jade_lexer.specs.Reading.{reading, Whole}
use Rattle.jade_syntax.specs.declared.tree.Program.{Program}
use Rattle.jade_parser.specs.Grammar.{IsReading}

-- a text is read as a program: the tokens of the text are the program's, at the places that it keeps
pub record ReadsAs (bytes : List ℕ) (tree : Program) : Type 0 where
  pub tokens : TokenList
  pub whole : reading bytes ≡ Whole tokens
  pub read : IsReading tokens tree
