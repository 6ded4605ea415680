-- What is read in place of a text: itself, or the text without its procedures.
use Rattle.std.specs.Prelude.{◌≡◌, ℕ, true, false, List, codes, Ok, Err}
use Rattle.jade_base.specs.declared.place.Pos.{Pos}
use Rattle.jade_lexer.specs.declared.lexeme.LexError.TheVariants.{Byte, Number, Deep}
use Rattle.jade_lexer.specs.Lexemes.{TokenList}
use Rattle.jade_lexer.specs.Reading.{reading, Whole, Refused as Unlexed}
use Rattle.proc_expand.specs.declared.error.ExpandError.{ExpandError}
use Rattle.proc_expand.specs.declared.error.ExpandError.TheVariants.{Shape, Unknown, Count, Twice, Grown, Memory}
use Rattle.proc_expand.specs.Expanded.{ExpandedText, text_of, origin_of, outcome}
use Rattle.proc_expand.specs.Words.{has_proc}

-- where every text begins
abbrev pub first_place : Pos
first_place = record { line = 1; column = 1 }

-- the place at which a text is not cut into tokens, and why: none begins there, or is allowed to
pub data NotLexed (bytes : List ℕ) (place : Pos) (why : List ℕ) : Type 0 where
  byte : reading bytes ≡ Unlexed (Byte place) → why ≡ codes "byte" → NotLexed bytes place why
  number : reading bytes ≡ Unlexed (Number place) → why ≡ codes "number" → NotLexed bytes place why
  deep : reading bytes ≡ Unlexed (Deep place) → why ≡ codes "deep" → NotLexed bytes place why

-- the place at which procedures are refused, and the word for it
abbrev pub IsToldAs : ExpandError → (place : Pos) → (why : List ℕ) → Type 0
IsToldAs (Shape pos) place why = (place ≡ pos) × (why ≡ codes "proc")
IsToldAs (Unknown pos) place why = (place ≡ pos) × (why ≡ codes "noproc")
IsToldAs (Count pos) place why = (place ≡ pos) × (why ≡ codes "count")
IsToldAs (Twice pos) place why = (place ≡ pos) × (why ≡ codes "twice")
IsToldAs Grown place why = (place ≡ first_place) × (why ≡ codes "grown")
IsToldAs Memory place why = ⊥

-- the place at which a text is refused before it is read, and why: it is not cut into tokens there, or its procedures are refused
pub data NotExpanded (bytes : List ℕ) (place : Pos) (why : List ℕ) : Type 0 where
  not_lexed : NotLexed bytes place why → NotExpanded bytes place why
  improper : (tokens : TokenList) → reading bytes ≡ Whole tokens → has_proc tokens.lexemes ≡ true → (error : ExpandError) → outcome tokens ≡ Err error →
      IsToldAs error place why → NotExpanded bytes place why

-- a text is read in place of the bytes: the bytes themselves, where no token of them is the word `proc`, and else what they expand to; and where each place of the
-- text comes from
pub data StandsFor (bytes text : List ℕ) (home : Pos → Pos) : Type 0 where
  itself : (tokens : TokenList) → reading bytes ≡ Whole tokens → has_proc tokens.lexemes ≡ false → text ≡ bytes → home ≡ (λ at. at) → StandsFor bytes text home
  expansion : (tokens : TokenList) → reading bytes ≡ Whole tokens → has_proc tokens.lexemes ≡ true → (e : ExpandedText) → outcome tokens ≡ Ok e →
      text ≡ text_of e → home ≡ origin_of e → StandsFor bytes text home
