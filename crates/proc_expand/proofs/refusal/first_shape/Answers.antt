use Rattle.std.proofs.Common.{◌&&◌, suc, length, ap, ◌∙◌}
use Rattle.proc_expand.specs.Words.{first, some}
use Rattle.proc_expand.specs.steps.Looking.{earliest}
use Rattle.proc_expand.specs.Refusals.{begins, proc_fails, misplaced, within, is_call, call_fails}
use Rattle.proc_expand.proofs.Joined.{shape_first}
use Rattle.proc_expand.proofs.refusal.first_shape.Goals as goal

pub returns : goal.returns
returns c =
    c.earliest-3.ensures
    ∙ ap (earliest c.first_failure-procedures.result) (c.earliest-2.ensures ∙ ap (earliest c.first_misplaced-misplaced.result) c.earliest.ensures)
    ∙ shape_first c.args.tokens.now.lexemes c.args.scan.now.signs.items c.requires.read c.first_failure-procedures.result
    c.first_misplaced-misplaced.result c.first_within-within.result c.first_failure-calls.result
    (c.first_failure-procedures.ensures
    ∙ ap (λ ss. first (suc (length ss)) (λ k. some (length ss) (λ p. begins ss p && proc_fails ss p k))) c.deref.ensures.value)
    (c.first_misplaced-misplaced.ensures ∙ ap (λ ss. first (suc (length ss)) (misplaced ss)) c.deref-4.ensures.value)
    (c.first_within-within.ensures ∙ ap (λ ss. first (suc (length ss)) (within ss)) c.deref-5.ensures.value)
    (c.first_failure-calls.ensures
    ∙ ap (λ ss. first (suc (length ss)) (λ k. some (length ss) (λ i. is_call ss i && call_fails ss i k))) c.deref-7.ensures.value)
