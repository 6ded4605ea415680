use Rattle.std.proofs.Common.{suc, length, ap, sym, ◌∙◌}
use Rattle.proc_expand.specs.Words.{first}
use Rattle.proc_expand.specs.steps.Looking.{earliest}
use Rattle.proc_expand.specs.Refusals.{ends_empty, ending_fails}
use Rattle.proc_expand.proofs.CallFacts.{call_failure, no_failure}
use Rattle.proc_expand.proofs.calls.failure_at.Goals as goal

pub returns-then-not-is_call : goal.returns-then-not-is_call
returns-then-not-is_call c = no_failure c.args.signs.now c.args.place (sym c.is_call.ensures ∙ c.if-not-is_call.true)

pub returns : goal.returns
returns c =
    let ss = c.args.signs.now in let k = c.args.place in
    c.earliest.ensures ∙ ap (λ t. earliest t c.ending_failure.result) c.read_inside-found.ensures.empty
    ∙ ap (earliest (first (suc (length ss)) (ends_empty ss k)))
    (c.ending_failure.ensures ∙ ap (λ e. first (suc (length ss)) (ending_fails ss e)) c.call_end.ensures.value)
    ∙ call_failure ss k (sym c.is_call.ensures ∙ c.if-not-is_call.false)
