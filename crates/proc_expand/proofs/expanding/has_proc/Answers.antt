use Rattle.std.proofs.Common.{◌≡◌, ℕ, ◌+◌, Bool, true, false, ◌||◌, List, take, Some, sym, ap, ◌∙◌}
use Rattle.std.specs.Prelude.{slice_get, slice_index_or, codes}
use Rattle.std.specs.List.{list_any}
use Rattle.std.proofs.lemmas.List.Folds.{list_any_at, list_any_more}
use Rattle.std.proofs.lemmas.Option.{slice_get_within, get_or_from_slice_get}
use Rattle.jade_lexer.specs.Lexemes.{TokenAt, token_of}
use Rattle.jade_syntax.specs.Numbering.{same_name}
use Rattle.proc_expand.proofs.expanding.has_proc.Goals as goal

one_here : (p : TokenAt → Bool) (ts : List TokenAt) (i : ℕ) (t : TokenAt) → slice_get ts i ≡ Some t → p t ≡ true → list_any p ts ≡ true
one_here p ts i t h e = list_any_at p ts i t (slice_get_within ts i t h) (ap p (get_or_from_slice_get ts i t t h) ∙ e)

none_more : (p : TokenAt → Bool) (ts : List TokenAt) (i : ℕ) (t : TokenAt) → slice_get ts i ≡ Some t → list_any p (take i ts) ≡ false → p t ≡ false
    → list_any p (take (i + 1) ts) ≡ false
none_more p ts i t h none e =
    list_any_more p ts i t (slice_get_within ts i t h) ∙ ap (λ b. b || p (slice_index_or ts i t)) none ∙ ap p (get_or_from_slice_get ts i t t h) ∙ e

pub returns-then-same_name : goal.returns-then-same_name
returns-then-same_name c =
    sym (one_here (λ (t : TokenAt). same_name t.bytes (codes "proc")) c.args.tokens.now.lexemes c.loop-place.place (token_of c.at.result.now) c.at.ensures
    (sym c.same_name.ensures ∙ c.if-same_name.true))

pub loop-place-preserved : goal.loop-place-preserved
loop-place-preserved c =
    none_more (λ (t : TokenAt). same_name t.bytes (codes "proc")) c.args.tokens.now.lexemes c.loop-place.place (token_of c.at.result.now) c.at.ensures
    c.loop-place.invariant (sym c.same_name.ensures ∙ c.if-same_name.false)
