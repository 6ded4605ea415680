-- One text, or none, is read in place of a text, and it is no longer than a text may be.
use Rattle.std.proofs.Common.{◌≡◌, ℕ, ◌≤◌, true, false, Bool, List, length, Option, Some, None, refl, ap, sym, ◌∙◌, subst, nat_lt}
use Rattle.std.specs.Prelude.{Result, Ok, Err}
use Rattle.std.proofs.lemmas.Bool.{ltb-false}
use Rattle.jade_base.specs.declared.place.Pos.{Pos}
use Rattle.jade_lexer.specs.declared.lexeme.LexError.{LexError}
use Rattle.jade_lexer.specs.Lexemes.{TokenList}
use Rattle.jade_lexer.specs.Reading.{Reading as ReadOf, reading, Whole, Refused as Unlexed}
use Rattle.proc_expand.specs.declared.error.ExpandError.{ExpandError}
use Rattle.proc_expand.specs.declared.error.ExpandError.TheVariants.{Shape, Unknown, Count, Twice, Grown, Memory}
use Rattle.proc_expand.specs.declared.refusal.Refusal.{Refusal}
use Rattle.proc_expand.specs.Expanded.{ExpandedText, text_of, origin_of, outcome, unless_grown, unless_refused}
use Rattle.proc_expand.specs.Refusals.{refusal}
use Rattle.proc_expand.specs.Words.{has_proc}
use Rattle.proc_expand.specs.Written.{expanded_text}
use Rattle.jade_run.specs.Standing.{IsToldAs, NotExpanded, NotLexed, StandsFor, byte, number, deep, not_lexed, improper, itself, expansion}

pub whole_is : (ts us : TokenList) → Whole ts ≡ Whole us → ts ≡ us
whole_is ts us e = cc

pub not_whole : (r : ReadOf) (ts : TokenList) (e : LexError) → r ≡ Whole ts → r ≡ Unlexed e → ⊥
not_whole r ts e h k = absurd (cc)

one_list : (bytes : List ℕ) (ts us : TokenList) → reading bytes ≡ Whole ts → reading bytes ≡ Whole us → ts ≡ us
one_list bytes ts us h k = whole_is ts us (sym h ∙ k)

lexed_apart : (bytes : List ℕ) (ts : TokenList) (place : Pos) (why : List ℕ) → reading bytes ≡ Whole ts → NotLexed bytes place why → ⊥
lexed_apart bytes ts place why h (byte r w) = not_whole (reading bytes) ts _ h r
lexed_apart bytes ts place why h (number r w) = not_whole (reading bytes) ts _ h r
lexed_apart bytes ts place why h (deep r w) = not_whole (reading bytes) ts _ h r

yes_and_no : (bytes : List ℕ) (ts us : TokenList) → reading bytes ≡ Whole ts → reading bytes ≡ Whole us → has_proc ts.lexemes ≡ true → has_proc us.lexemes ≡ false → ⊥
yes_and_no bytes ts us h k t f =
    let g : has_proc us.lexemes ≡ true = subst (λ (x : TokenList). has_proc x.lexemes ≡ true) (one_list bytes ts us h k) t in absurd (cc)

-- ---- what two outcomes have in common

well_or_not : (o : Result ExpandedText ExpandError) (e : ExpandedText) (r : ExpandError) → o ≡ Ok e → o ≡ Err r → ⊥
well_or_not o e r h k = absurd (cc)

one_text : (o : Result ExpandedText ExpandError) (d e : ExpandedText) → o ≡ Ok d → o ≡ Ok e → d ≡ e
one_text o d e h k = cc

one_error : (o : Result ExpandedText ExpandError) (d e : ExpandError) → o ≡ Err d → o ≡ Err e → d ≡ e
one_error o d e h k = cc

same_told : (e : ExpandError) (p q : Pos) (v w : List ℕ) → IsToldAs e p v → IsToldAs e q w → (p ≡ q) × (v ≡ w)
same_told (Shape pos) p q v w h k = (h.0 ∙ sym k.0, h.1 ∙ sym k.1)
same_told (Unknown pos) p q v w h k = (h.0 ∙ sym k.0, h.1 ∙ sym k.1)
same_told (Count pos) p q v w h k = (h.0 ∙ sym k.0, h.1 ∙ sym k.1)
same_told (Twice pos) p q v w h k = (h.0 ∙ sym k.0, h.1 ∙ sym k.1)
same_told Grown p q v w h k = (h.0 ∙ sym k.0, h.1 ∙ sym k.1)
same_told Memory p q v w h k = absurd h

-- ---- one text is read, from the same places, or the bytes are refused

pub same_stands : (bytes t u : List ℕ) (h k : Pos → Pos) → StandsFor bytes t h → StandsFor bytes u k → (t ≡ u) × (h ≡ k)
same_stands bytes t u h k (itself ts r n a b) (itself us s m c d) = (a ∙ sym c, b ∙ sym d)
same_stands bytes t u h k (itself ts r n a b) (expansion us s m e o c d) = absurd (yes_and_no bytes us ts s r m n)
same_stands bytes t u h k (expansion ts r n e o a b) (itself us s m c d) = absurd (yes_and_no bytes ts us r s n m)
same_stands bytes t u h k (expansion ts r n e o a b) (expansion us s m f q c d) =
    let same : e ≡ f = one_text (outcome us) e f (ap outcome (sym (one_list bytes ts us r s)) ∙ o) q in
    (a ∙ ap text_of same ∙ sym c, b ∙ ap origin_of same ∙ sym d)

pub stands_or_not : (bytes t : List ℕ) (h : Pos → Pos) (p : Pos) (v : List ℕ) → StandsFor bytes t h → NotExpanded bytes p v → ⊥
stands_or_not bytes t h p v (itself ts r n a b) (not_lexed l) = lexed_apart bytes ts p v r l
stands_or_not bytes t h p v (expansion ts r n e o a b) (not_lexed l) = lexed_apart bytes ts p v r l
stands_or_not bytes t h p v (itself ts r n a b) (improper us s m e o i) = yes_and_no bytes us ts s r m n
stands_or_not bytes t h p v (expansion ts r n e o a b) (improper us s m f q i) =
    well_or_not (outcome us) e f (ap outcome (sym (one_list bytes ts us r s)) ∙ o) q

pub same_improper : (bytes : List ℕ) (ts us : TokenList) (d e : ExpandError) (p q : Pos) (v w : List ℕ) → reading bytes ≡ Whole ts → reading bytes ≡ Whole us
    → outcome ts ≡ Err d → outcome us ≡ Err e → IsToldAs d p v → IsToldAs e q w → (p ≡ q) × (v ≡ w)
same_improper bytes ts us d e p q v w r s o n i j =
    let same : d ≡ e = one_error (outcome us) d e (ap outcome (sym (one_list bytes ts us r s)) ∙ o) n in
    same_told e p q v w (subst (λ x. IsToldAs x p v) same i) j

pub lexed_or_improper : (bytes : List ℕ) (ts : TokenList) (p : Pos) (v : List ℕ) → reading bytes ≡ Whole ts → NotLexed bytes p v → ⊥
lexed_or_improper bytes ts p v r l = lexed_apart bytes ts p v r l

-- ---- how long it is

grown_within : (l : TokenList) (b : Bool) (e : ExpandedText) → nat_lt 1048576 (length (expanded_text l)) ≡ b → unless_grown l b ≡ Ok e
    → length (text_of e) ≤ 1048576
grown_within l true e h k = absurd (cc)
grown_within l false e h k =
    let own : ExpandedText = record { tokens = Rattle.proc_expand.specs.Written.expansion l.lexemes l.end; end = l.end } in
    let same : own ≡ e = cc in
    subst (λ (x : ExpandedText). length (text_of x) ≤ 1048576) same (ltb-false 1048576 (length (expanded_text l)) h)

outcome_within : (l : TokenList) (o : Option Refusal) (e : ExpandedText) → unless_refused l o ≡ Ok e → length (text_of e) ≤ 1048576
outcome_within l (Some r) e h = absurd (cc)
outcome_within l None e h = grown_within l (nat_lt 1048576 (length (expanded_text l))) e refl h

pub expanded_within : (l : TokenList) (e : ExpandedText) → outcome l ≡ Ok e → length (text_of e) ≤ 1048576
expanded_within l e h = outcome_within l (refusal l.lexemes) e h

pub stands_within : (bytes t : List ℕ) (h : Pos → Pos) → length bytes ≤ 1048576 → StandsFor bytes t h → length t ≤ 1048576
stands_within bytes t h le (itself ts r n a b) = subst (λ x. length x ≤ 1048576) (sym a) le
stands_within bytes t h le (expansion ts r n e o a b) = subst (λ x. length x ≤ 1048576) (sym a) (expanded_within ts e o)
