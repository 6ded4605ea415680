-- An expanded text as it is handed out: its tokens, and where each of them comes from.
use Rattle.std.specs.Prelude.{ℕ, ◌+◌, ◌&&◌, Bool, true, false, nat_eq, nat_lt, List, [], ◌∷◌, ◌++◌, length, Option, Some, None, Result, Ok, Err, if◌then◌else◌}
use Rattle.jade_base.specs.declared.place.Pos.{Pos}
use Rattle.jade_lexer.specs.Lexemes.{TokenList}
use Rattle.proc_expand.specs.declared.refusal.Reason.{Reason}
use Rattle.proc_expand.specs.declared.refusal.Reason.TheVariants.{Shape, Unknown, Count, Twice}
use Rattle.proc_expand.specs.declared.refusal.Refusal.{Refusal}
use Rattle.proc_expand.specs.declared.error.ExpandError.{ExpandError}
use Rattle.proc_expand.specs.declared.error.ExpandError.TheVariants.{Grown}
use Rattle.proc_expand.specs.declared.error.ExpandError.TheVariants as error
use Rattle.proc_expand.specs.Refusals.{refusal}
use Rattle.proc_expand.specs.Written.{MadeToken, pos_at, spaced, expansion, expanded_text}

-- an expanded text: its tokens in order, and where the source ends
pub record ExpandedText : Type 0 where
  pub tokens : List MadeToken
  pub end : Pos

-- its bytes
abbrev pub text_of : ExpandedText → List ℕ
text_of t = spaced t.tokens ++ 10 ∷ []

-- ---- what is answered, unless memory is wanting

abbrev pub error_for : Reason → Pos → ExpandError
error_for Shape pos = error.Shape pos
error_for Unknown pos = error.Unknown pos
error_for Count pos = error.Count pos
error_for Twice pos = error.Twice pos

abbrev pub unless_grown : TokenList → Bool → Result ExpandedText ExpandError
unless_grown l true = Err Grown
unless_grown l false = Ok (record { tokens = expansion l.lexemes l.end; end = l.end })

abbrev pub unless_refused : TokenList → Option Refusal → Result ExpandedText ExpandError
unless_refused l (Some r) = Err (error_for r.why (pos_at l.lexemes l.end l.lexemes r.place))
unless_refused l None = unless_grown l (nat_lt 1048576 (length (expanded_text l)))

-- the first refusal, or that the expanded text is longer than 1,048,576 bytes, or the expanded text
abbrev pub outcome : TokenList → Result ExpandedText ExpandError
outcome l = unless_refused l (refusal l.lexemes)

-- ---- origins

-- the origin of the token whose first byte stands at a position, where the first of these tokens begins in some column of the first line
abbrev pub origin_from : Pos → (column : ℕ) → List MadeToken → Pos → Pos
origin_from end column [] pos = end
origin_from end column (t ∷ ts) pos =
    if nat_eq pos.line 1 && nat_eq column pos.column then t.origin else origin_from end (column + length t.bytes + 1) ts pos

-- where the token that stands at a position comes from; where none does, it is the source's end
abbrev pub origin_of : ExpandedText → Pos → Pos
origin_of t pos = origin_from t.end 1 t.tokens pos
