use Rattle.std.proofs.Common.{◌≡◌, suc, length, IfOk, ap, sym, subst, ◌∙◌}
use Rattle.proc_expand.specs.declared.procedures.Head.{Head}
use Rattle.proc_expand.specs.Words.{signs, first}
use Rattle.proc_expand.specs.Refusals.{begins, head, repeats_param}
use Rattle.proc_expand.proofs.Repeated.{none_if, all_if}
use Rattle.proc_expand.proofs.twice.repeated_param.Goals as goal

pub returns-then-not-begins_at : goal.returns-then-not-begins_at
returns-then-not-begins_at c =
    let ts = c.args.tokens.now.lexemes in
    none_if (suc (length ts)) (begins (signs ts) c.args.place) (repeats_param ts c.args.place (head (signs ts) c.args.place).params)
    (sym c.begins_at.ensures ∙ c.if-not-begins_at.true)

pub returns : goal.returns
returns c =
    let ts = c.args.tokens.now.lexemes in
    let p = c.args.place in
    let same = ap (λ (h : Head). h.params) c.read_head.ensures.value ∙ ap (λ ss. (head ss p).params) (c.deref.ensures.value ∙ c.requires.scan.read) in
    let found = ap (λ n. first (suc (length ts)) (repeats_param ts p n)) same
    ∙ all_if (suc (length ts)) (begins (signs ts) p) (repeats_param ts p (head (signs ts) p).params) (sym c.begins_at.ensures ∙ c.if-not-begins_at.false) in
    subst (λ f. IfOk c.first_repeated.result (λ r. r ≡ f)) found c.first_repeated.ensures
