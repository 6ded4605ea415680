use Rattle.std.proofs.Common.{◌+◌, ◌&&◌, suc, length, nat_eq, ap, sym, ◌∙◌}
use Rattle.proc_expand.specs.Words.{first, is_comma, before}
use Rattle.proc_expand.specs.steps.Looking.{earliest}
use Rattle.proc_expand.specs.Refusals.{ending_fails}
use Rattle.proc_expand.proofs.CallFacts.{closed_failure, wrong_failure, never_failure}
use Rattle.proc_expand.proofs.calls.ending_failure.Goals as goal

pub returns-in-Closed : goal.returns-in-Closed
returns-in-Closed c =
    let ss = c.args.signs.now in let last = c.in-Closed.last in
    c.earliest.ensures ∙ ap (λ t. earliest t c.misfollowing.result) c.after_comma.ensures
    ∙ ap (earliest (first (suc (length ss)) (λ k. nat_eq (last + 0) k && is_comma (before ss k)))) c.misfollowing.ensures
    ∙ closed_failure ss last ∙ ap (λ e. first (suc (length ss)) (ending_fails ss e)) (sym c.in-Closed.is)

pub returns-in-Wrong : goal.returns-in-Wrong
returns-in-Wrong c =
    let ss = c.args.signs.now in
    wrong_failure ss c.in-Wrong.place (c.requires.wrong c.in-Wrong.place c.in-Wrong.is)
    ∙ ap (λ e. first (suc (length ss)) (ending_fails ss e)) (sym c.in-Wrong.is)

pub returns-in-Never : goal.returns-in-Never
returns-in-Never c =
    let ss = c.args.signs.now in never_failure ss ∙ ap (λ e. first (suc (length ss)) (ending_fails ss e)) (sym c.in-Never.is)
