-- That there is a source for a text, and that a program answers what it answers.
use Rattle.std.specs.Prelude.{◌≡◌, ℕ, List, ℤ}
use Rattle.jade_lexer.specs.Lexemes.{TokenList}
use Rattle.jade_syntax.specs.declared.tree.Program.{Program}
use Rattle.jade_syntax.specs.Image.{program}
use Rattle.jade_meaning.specs.Answer.{answer}
use Rattle.jade_meaning.specs.Moved.{moved_answer}
use Rattle.jade_meaning.specs.Serial.{Path}
use Rattle.proc_expand.specs.Expanded.{origin_of}
use Rattle.proc_expand.specs.Written.{expansion}
use Rattle.proc_laws.specs.SourceAnswer.{source_answer}
use Rattle.proc_laws.specs.SourceReading.{IsSourceReading}
use Rattle.proc_laws.specs.SourceTree.{SourceText, source_of}

-- there is a source that the tokens read as
pub record ReadsAsSource (l : TokenList) : Type 0 where
  pub source : SourceText
  pub is : IsSourceReading l source

-- there is a source that the tokens read as, and by whatever turn lists a program answers, with its fault at its origin, that is what the source answers
pub record AnswersAsSource (l : TokenList) (p : Program) : Type 0 where
  pub source : SourceText
  pub is : IsSourceReading l source
  pub answers : (numbers : List ℤ) → (limit : ℕ) → (turns : ℕ → List Path)
      → moved_answer (origin_of (record { tokens = expansion l.lexemes l.end; end = l.end })) (answer (program p) numbers limit turns)
      ≡ source_answer (source_of source) numbers limit turns
