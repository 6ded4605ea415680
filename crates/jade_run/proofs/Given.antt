-- What is read in place of a text, each in one step.
use Rattle.std.proofs.Common.{◌≡◌, ◌≢◌, ℕ, true, false, List, refl, sym, ◌∙◌, subst}
use Rattle.std.specs.Prelude.{Result, Ok, Err, IfOk, IfErr}
use Rattle.jade_base.specs.declared.place.Pos.{Pos}
use Rattle.jade_lexer.specs.Lexemes.{TokenList}
use Rattle.jade_lexer.specs.Reading.{reading, Whole}
use Rattle.jade_parser.specs.Grammar.{IsReading}
use Rattle.jade_reading.specs.Reading.{ReadsAs}
use Rattle.jade_syntax.specs.declared.tree.Program.{Program}
use Rattle.proc_expand.specs.declared.error.ExpandError.{ExpandError}
use Rattle.proc_expand.specs.declared.error.ExpandError.TheVariants.{Shape, Unknown, Count, Twice, Grown, Memory}
use Rattle.proc_expand.specs.Expanded.{ExpandedText, text_of, origin_of, outcome}
use Rattle.proc_expand.specs.Words.{has_proc}
use Rattle.jade_base.specs.declared.failure.Memory.{Memory as NoMemory}
use Rattle.jade_run.specs.declared.answer.Answer.{Answer as AnswerOf}
use Rattle.jade_run.specs.declared.answer.ReadError.{ReadError}
use Rattle.jade_run.specs.declared.answer.ReadError.TheVariants.{Refused as RefusedAt, Memory as Unread}
use Rattle.jade_run.specs.declared.status.Status.TheVariants.{Good}
use Rattle.jade_run.specs.Answered.{IsExpanded, IsRead, NotRead, expanded, OnRefused, RefusedAs, unexpanded, unread, unlexed, token, long}
use Rattle.jade_run.specs.Standing.{IsToldAs, NotExpanded, NotLexed, StandsFor, improper, itself}
use Rattle.jade_run.specs.steps.Homes.{RefusedIn, RefusedTokens, at_token, too_long}

pub not_lexed_is : (bytes : List ℕ) (e : ReadError) → OnRefused e (NotLexed bytes) → OnRefused e (RefusedAs bytes)
not_lexed_is bytes (RefusedAt place why) h = unlexed h
not_lexed_is bytes Unread h = tt

-- tokens that are those of a text are read as it is
pub read_as : (bytes : List ℕ) (tokens : TokenList) (r : Result Program ReadError) → reading bytes ≡ Whole tokens → IfOk r (IsReading tokens)
    → IfOk r (ReadsAs bytes)
read_as bytes tokens (Ok p) w h = record { tokens = tokens; whole = w; read = h }
read_as bytes tokens (Err e) w h = tt

-- and refused as it is
as_text : (bytes : List ℕ) (tokens : TokenList) (place : Pos) (why : List ℕ) → reading bytes ≡ Whole tokens → RefusedTokens tokens place why
    → RefusedAs bytes place why
as_text bytes tokens place why w (at_token h e) = token tokens w h e
as_text bytes tokens place why w (too_long h e) = long tokens w h e

refused_as : (bytes : List ℕ) (tokens : TokenList) (e : ReadError) → reading bytes ≡ Whole tokens → OnRefused e (RefusedTokens tokens)
    → OnRefused e (RefusedAs bytes)
refused_as bytes tokens (RefusedAt place why) w h = as_text bytes tokens place why.now w h
refused_as bytes tokens Unread w h = tt

pub tokens_refused : (bytes : List ℕ) (tokens : TokenList) (r : Result Program ReadError) → reading bytes ≡ Whole tokens
    → IfErr r (λ e. OnRefused e (RefusedTokens tokens)) → IfErr r (λ e. OnRefused e (RefusedAs bytes))
tokens_refused bytes tokens (Ok p) w h = tt
tokens_refused bytes tokens (Err e) w h = refused_as bytes tokens e w h

-- a text without the word `proc` stands for itself
stands : (bytes : List ℕ) (tokens : TokenList) → reading bytes ≡ Whole tokens → has_proc tokens.lexemes ≡ false → StandsFor bytes bytes (λ at. at)
stands bytes tokens w n = itself tokens w n refl refl

pub itself_read : (bytes : List ℕ) (tokens : TokenList) (p : Program) → (reading bytes ≡ Whole tokens) × (has_proc tokens.lexemes ≡ false) → IsReading tokens p
    → IsRead bytes p (λ at. at)
itself_read bytes tokens p s h = record { text = bytes; stands = stands bytes tokens s.0 s.1; reads = record { tokens = tokens; whole = s.0; read = h } }

pub itself_refused : (bytes : List ℕ) (tokens : TokenList) (e : ReadError) → (reading bytes ≡ Whole tokens) × (has_proc tokens.lexemes ≡ false)
    → OnRefused e (RefusedTokens tokens) → OnRefused e (NotRead bytes)
itself_refused bytes tokens (RefusedAt place why) s h =
    unread bytes (λ at. at) (stands bytes tokens s.0 s.1) place (as_text bytes tokens place why.now s.0 h) refl
itself_refused bytes tokens Unread s h = tt

-- what the bytes expand to stands for them
pub expanded_read : (bytes : List ℕ) (e : ExpandedText) (p : Program) → StandsFor bytes (text_of e) (origin_of e) → ReadsAs (text_of e) p
    → IsRead bytes p (origin_of e)
expanded_read bytes e p s h = record { text = text_of e; stands = s; reads = h }

pub expanded_refused : (bytes : List ℕ) (e : ExpandedText) (r : ReadError) → StandsFor bytes (text_of e) (origin_of e)
    → OnRefused r (RefusedIn (text_of e) (origin_of e)) → OnRefused r (NotRead bytes)
expanded_refused bytes e (RefusedAt place why) s h = unread (text_of e) (origin_of e) s h.0 h.1.0 h.1.1
expanded_refused bytes e Unread s h = tt

pub unexpanded_for : (bytes : List ℕ) (e : ReadError) → OnRefused e (NotExpanded bytes) → OnRefused e (NotRead bytes)
unexpanded_for bytes (RefusedAt place why) h = unexpanded h
unexpanded_for bytes Unread h = tt

-- ---- procedures that are refused

not_memory : (e : ExpandError) (place : Pos) (why : List ℕ) → IsToldAs e place why → e ≢ Memory
not_memory (Shape pos) place why h = λ e. absurd (cc)
not_memory (Unknown pos) place why h = λ e. absurd (cc)
not_memory (Count pos) place why h = λ e. absurd (cc)
not_memory (Twice pos) place why h = λ e. absurd (cc)
not_memory Grown place why h = λ e. absurd (cc)
not_memory Memory place why h = absurd h

pub improper_for : (bytes : List ℕ) (tokens : TokenList) (e : ExpandError) (r : ReadError) → reading bytes ≡ Whole tokens → has_proc tokens.lexemes ≡ true
    → (e ≢ Memory → outcome tokens ≡ Err e) → OnRefused r (IsToldAs e) → OnRefused r (NotExpanded bytes)
improper_for bytes tokens e (RefusedAt place why) w n o h = improper tokens w n e (o (not_memory e place why.now h)) h
improper_for bytes tokens e Unread w n o h = tt

-- ---- a text that is written without procedures

pub itself_expanded : (bytes : List ℕ) (tokens : TokenList) (r : Result AnswerOf NoMemory) → (reading bytes ≡ Whole tokens) × (has_proc tokens.lexemes ≡ false)
    → IfOk r (λ a. a.text.items ≡ bytes) → IfOk r (λ a. a.status ≡ Good) → IfOk r (λ a. IsExpanded bytes a.text.items a.status)
itself_expanded bytes tokens (Ok a) s t e = subst (λ x. IsExpanded bytes x a.status) (sym t) (expanded (λ at. at) (stands bytes tokens s.0 s.1) e)
itself_expanded bytes tokens (Err m) s t e = tt

pub text_expanded : (bytes written : List ℕ) (e : ExpandedText) (r : Result AnswerOf NoMemory) → StandsFor bytes (text_of e) (origin_of e) → written ≡ text_of e
    → IfOk r (λ a. a.text.items ≡ written) → IfOk r (λ a. a.status ≡ Good) → IfOk r (λ a. IsExpanded bytes a.text.items a.status)
text_expanded bytes written e (Ok a) s same t g = subst (λ x. IsExpanded bytes x a.status) (sym (t ∙ same)) (expanded (origin_of e) s g)
text_expanded bytes written e (Err m) s same t g = tt
