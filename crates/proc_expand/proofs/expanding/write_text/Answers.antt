use Rattle.std.proofs.Common.{◌≡◌, length, sym, ap, ◌∙◌, subst, arith}
use Rattle.std.specs.Prelude.{Result, Ok, Err, IfOk}
use Rattle.proc_expand.specs.steps.Sheets.{tokens_of}
use Rattle.proc_expand.specs.Expanded.{outcome}
use Rattle.proc_expand.proofs.Origins.{is_whole, is_grown}
use Rattle.proc_expand.proofs.expanding.write_text.Goals as goal

if_ok : {A E : Type 0} (r : Result A E) (a : A) (P : A → Type 0) → P a → IfOk r (λ x. x ≡ a) → IfOk r P
if_ok (Ok x) a P p h = subst P (sym h) p
if_ok (Err e) a P p h = tt

pub returns-in-Ok-clause-expanded : goal.returns-in-Ok-clause-expanded
returns-in-Ok-clause-expanded c =
    let l = c.args.tokens.now in let us = tokens_of c.in-Ok.sheet in
    if_ok c.finished.result (record { tokens = us; end = c.end.result }) (λ t. outcome l ≡ Ok t)
    (is_whole l c.requires.accepted us c.in-Ok.ensures.tokens
    (let is = c.in-Ok.ensures.sheet in let few = is.few in let e = ap length is.text in omega (arith, few, e))
    ∙ ap (λ p. Ok (record { tokens = us; end = p })) (sym c.end.ensures))
    c.finished.ensures.expanded

pub returns-in-Err-Grown-clause-refused : goal.returns-in-Err-Grown-clause-refused
returns-in-Err-Grown-clause-refused c = λ _. is_grown c.args.tokens.now c.requires.accepted (c.in-Err-Grown.ensures.grown (ap Err c.in-Err-Grown.field-0-is))
