use Rattle.std.proofs.Common.{◌∙◌, sym, arith}
use Rattle.object_shelf.proofs.Clearing.{clear-stops, clear-goes, clear-within}
use Rattle.object_shelf.proofs.clear.go_on.Goals as goal

pub returns-then-conflicts : goal.returns-then-conflicts
returns-then-conflicts c =
    λ h. clear-stops c.args.mode c.args.rows.now.items c.loop-place.place c.index.result.now (c.loop-place.invariant h)
    (omega (arith, c.loop-place-test.true, c.len-place-end.ensures)) c.index.ensures (sym c.conflicts.ensures ∙ c.if-conflicts.true)

pub loop-place-preserved : goal.loop-place-preserved
loop-place-preserved c =
    λ h. clear-goes c.args.mode c.args.rows.now.items c.loop-place.place c.index.result.now (c.loop-place.invariant h)
    (omega (arith, c.loop-place-test.true, c.len-place-end.ensures)) c.index.ensures (sym c.conflicts.ensures ∙ c.if-conflicts.false)

pub returns : goal.returns
returns c =
    λ h. let i = c.loop-place.invariant h in
    let w = clear-within c.args.mode c.args.rows.now.items in
    omega (arith, i, w, c.loop-place-test.false, c.len-place-end.ensures, c.len.ensures)
