use Rattle.std.proofs.Common.{◌≡◌, ◌&&◌, suc, false, length, ap, sym, refl, ◌∙◌, arith}
use Rattle.std.specs.Prelude.{slice_index_or}
use Rattle.proc_expand.specs.Words.{first, some}
use Rattle.proc_expand.specs.steps.Looking.{earliest}
use Rattle.proc_expand.specs.Refusals.{begins, proc_fails}
use Rattle.proc_expand.proofs.First.{first_none, first_some}
use Rattle.proc_expand.proofs.Heads.{test_at, length_tests}
use Rattle.proc_expand.proofs.procedures.first_failure.Goals as goal

pub bounds-begins-place : goal.bounds-begins-place
bounds-begins-place c =
    let ss = c.args.signs.now in let t = c.loop-place-test.true in
    let same : length c.args.begins.now ≡ length ss = ap length c.requires.begins ∙ length_tests (length ss) (begins ss) in omega (arith, same, t)

pub loop-place-init : goal.loop-place-init
loop-place-init c =
    let ss = c.args.signs.now in
    sym (first_none (suc (length ss)) (λ k. some 0 (λ p. begins ss p && proc_fails ss p k)) (λ k l. refl))

pub loop-place-preserved : goal.loop-place-preserved
loop-place-preserved c =
    let ss = c.args.signs.now in let n = c.loop-place.place in let t = c.loop-place-test.true in
    c.earliest-found.ensures ∙ ap (λ u. earliest u c.failure_at.result) c.loop-place.invariant
    ∙ ap (earliest (first (suc (length ss)) (λ k. some n (λ p. begins ss p && proc_fails ss p k))))
    (c.failure_at.ensures
    ∙ ap (λ b. first (suc (length ss)) (λ k. b && proc_fails ss n k))
    (ap (λ u. slice_index_or u n false) c.requires.begins ∙ test_at (length ss) n (begins ss) false (omega (arith, t))))
    ∙ sym (first_some (suc (length ss)) n (λ p k. begins ss p && proc_fails ss p k))

pub returns : goal.returns
returns c =
    let ss = c.args.signs.now in
    let t = c.loop-place-test.false in let e = c.loop-place.auto.place-end in
    let done : c.loop-place.place ≡ length ss = omega (arith, t, e) in
    c.loop-place.invariant ∙ ap (λ n. first (suc (length ss)) (λ k. some n (λ p. begins ss p && proc_fails ss p k))) done
