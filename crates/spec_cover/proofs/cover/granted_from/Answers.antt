use Rattle.std.proofs.Common.{arith}
use Rattle.spec_cover.proofs.Places.{enough-next, granted-here, granted-none}
use Rattle.spec_cover.proofs.cover.granted_from.Goals as goal

pub returns-then-found-object-clause-granted : goal.returns-then-found-object-clause-granted
returns-then-found-object-clause-granted c =
    granted-here c.args.parent.now.entries c.loop-place.place c.args.object c.entry.result c.entry.ensures c.if-found-object.true c.loop-place.invariant

pub returns-then-found-object-2-clause-granted : goal.returns-then-found-object-2-clause-granted
returns-then-found-object-2-clause-granted c =
    granted-none c.args.parent.now.entries c.loop-place.place c.args.object c.entry.result c.len-place-end.ensures.ascending c.entry.ensures
    c.if-found-object-2.true c.loop-place.invariant

pub loop-place-preserved : goal.loop-place-preserved
loop-place-preserved c =
    enough-next c.args.parent.now.entries c.loop-place.place c.args.object.0 c.entry.result c.entry.ensures (omega arith) c.loop-place.invariant
