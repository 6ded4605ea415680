-- What the parser of a whole program promises of the tokens that it saw.
use Rattle.std.specs.Prelude.{◌≡◌, ℕ, ◌+◌, ◌<◌, List, ◌++◌, take, length}
use Rattle.jade_syntax.specs.declared.tree.Program.{Program}
use Rattle.jade_parser.specs.declared.Seen.{Seen}
use Rattle.jade_parser.specs.Spelled.{Tokens, tokens_of, AllShort}
use Rattle.jade_parser.specs.Programs.{program_parts, Proper}
use Rattle.jade_parser.specs.steps.Reads.{Reads, kinds}
use Rattle.jade_parser.specs.steps.Parts.{BegunIn, LongIn}

-- they are the tokens of the program
pub record ReadAll (all : List Seen) (p : Program) : Type 0 where
  pub reads : Reads all 0 (length all) (program_parts p)
  pub proper : Proper p
  pub short : AllShort (program_parts p)

-- no program has tokens that begin with these
pub record Nowhere (ts : Tokens) : Type 0 where
  pub none : (p : Program) (more : Tokens) → Proper p → tokens_of (program_parts p) ≡ ts ++ more → ⊥

-- no program has these tokens
pub record Never (ts : Tokens) : Type 0 where
  pub none : (p : Program) → Proper p → tokens_of (program_parts p) ≡ ts → ⊥

-- the first k tokens begin a program, and with the next, or the end, they do not
pub record RefusedAt (all : List Seen) (k : ℕ) : Type 0 where
  pub begun : BegunIn Proper program_parts all 0 k
  pub no_more : k < length all → Nowhere (take (k + 1) (kinds all))
  pub no_end : Never (kinds all)

-- the token with a number is the 257th of an outermost expression
abbrev pub TooLongAt : List Seen → ℕ → Type 0
TooLongAt all k = LongIn Proper program_parts all 0 k
