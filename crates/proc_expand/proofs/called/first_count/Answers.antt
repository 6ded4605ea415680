use Rattle.std.proofs.Common.{suc, length, sym, ◌∙◌, arith}
use Rattle.proc_expand.specs.Refusals.{is_count}
use Rattle.proc_expand.proofs.First.{first_at, first_more, first_done}
use Rattle.proc_expand.proofs.KnownNames.{as_long, no_count}
use Rattle.proc_expand.proofs.called.first_count.Goals as goal

pub returns-then-is_count : goal.returns-then-is_count
returns-then-is_count c =
    let ts = c.args.tokens.now.lexemes in
    sym (first_at c.loop-place.place (suc (length ts)) (is_count ts) c.loop-place.invariant
    (sym c.is_count.ensures ∙ c.if-is_count.true) (let t = c.loop-place-test.true in let n = as_long ts c.args.scan.now c.requires.scan in omega (arith, t, n)))

pub loop-place-preserved : goal.loop-place-preserved
loop-place-preserved c =
    first_more c.loop-place.place (is_count c.args.tokens.now.lexemes) c.loop-place.invariant (sym c.is_count.ensures ∙ c.if-is_count.false)

pub returns : goal.returns
returns c =
    let ts = c.args.tokens.now.lexemes in
    first_done c.loop-place.place (length ts) (is_count ts)
    (let t = c.loop-place-test.false in let e = c.loop-place.auto.place-end in let n = as_long ts c.args.scan.now c.requires.scan in omega (arith, t, e, n))
    c.loop-place.invariant (no_count ts)
