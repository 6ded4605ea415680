use Rattle.std.proofs.Common.{◌&&◌, suc, length, ap, sym, refl, ◌∙◌, arith}
use Rattle.std.proofs.Common.{◌≡◌}
use Rattle.proc_expand.specs.Words.{first, some}
use Rattle.proc_expand.specs.steps.Looking.{earliest}
use Rattle.proc_expand.specs.Refusals.{is_call, call_fails}
use Rattle.proc_expand.proofs.First.{first_none, first_some}
use Rattle.proc_expand.proofs.calls.first_failure.Goals as goal

pub loop-place-init : goal.loop-place-init
loop-place-init c =
    let ss = c.args.signs.now in
    sym (first_none (suc (length ss)) (λ k. some 0 (λ i. is_call ss i && call_fails ss i k)) (λ k l. refl))

pub loop-place-preserved : goal.loop-place-preserved
loop-place-preserved c =
    let ss = c.args.signs.now in let n = c.loop-place.place in
    c.earliest-found.ensures ∙ ap (λ t. earliest t c.failure_at.result) c.loop-place.invariant
    ∙ ap (earliest (first (suc (length ss)) (λ k. some n (λ i. is_call ss i && call_fails ss i k)))) c.failure_at.ensures
    ∙ sym (first_some (suc (length ss)) n (λ i k. is_call ss i && call_fails ss i k))

pub returns : goal.returns
returns c =
    let ss = c.args.signs.now in
    let t = c.loop-place-test.false in let e = c.loop-place.auto.place-end in
    let done : c.loop-place.place ≡ length ss = omega (arith, t, e) in
    c.loop-place.invariant ∙ ap (λ n. first (suc (length ss)) (λ k. some n (λ i. is_call ss i && call_fails ss i k))) done
