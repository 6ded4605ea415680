-- What the printed text of a program reads as.
use Rattle.std.specs.Prelude.{◌≡◌}
use Rattle.jade_lexer.specs.Lexemes.{TokenList}
use Rattle.jade_lexer.specs.Reading.{reading, Whole}
use Rattle.jade_syntax.specs.declared.tree.Program.{Program}
use Rattle.jade_syntax.specs.PlacedImage.{placed_program}
use Rattle.jade_layout.specs.Layout.{layout}
use Rattle.jade_layout.specs.Spelling.{spelling}
use Rattle.jade_parser.specs.declared.ParseError.{ParseError}
use Rattle.jade_parser.specs.Grammar.{IsReading, IsRefusal}
use Rattle.jade_parser.specs.OneReading.{IsMemory}
use Rattle.jade_reading.specs.Unplaced.{unplaced}

-- the printed text reads as tokens that are not refused; a program that they read as is the same tree but for places, and is printed as the same text
pub record ReadsBack (p : Program) : Type 0 where
  pub tokens : TokenList
  pub whole : reading (layout (spelling p)) ≡ Whole tokens
  pub taken : (e : ParseError) → IsRefusal tokens e → IsMemory e
  pub same : (q : Program) → IsReading tokens q → unplaced (placed_program q) ≡ unplaced (placed_program p)
  pub again : (q : Program) → IsReading tokens q → layout (spelling q) ≡ layout (spelling p)
