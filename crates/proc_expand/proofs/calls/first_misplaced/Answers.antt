use Rattle.std.proofs.Common.{◌&&◌, not, suc, length, ap, sym, ◌∙◌, arith}
use Rattle.proc_expand.specs.Words.{before, ends_statement}
use Rattle.proc_expand.specs.Refusals.{misplaced}
use Rattle.proc_expand.proofs.First.{first_at, first_more, first_done}
use Rattle.proc_expand.proofs.CallFacts.{no_call}
use Rattle.proc_expand.proofs.calls.first_misplaced.Goals as goal

pub returns-then-is_misplaced : goal.returns-then-is_misplaced
returns-then-is_misplaced c =
    sym (first_at c.loop-place.place (suc (length c.args.signs.now)) (misplaced c.args.signs.now) c.loop-place.invariant
    (sym c.is_misplaced.ensures ∙ c.if-is_misplaced.true) (let t = c.loop-place-test.true in omega (arith, t)))

pub loop-place-preserved : goal.loop-place-preserved
loop-place-preserved c =
    first_more c.loop-place.place (misplaced c.args.signs.now) c.loop-place.invariant (sym c.is_misplaced.ensures ∙ c.if-is_misplaced.false)

pub returns : goal.returns
returns c =
    let ss = c.args.signs.now in
    first_done c.loop-place.place (length ss) (misplaced ss) (let t = c.loop-place-test.false in let e = c.loop-place.auto.place-end in omega (arith, t, e))
    c.loop-place.invariant (ap (λ b. b && not (ends_statement (before ss (length ss)))) (no_call ss (length ss) (omega arith)))
