use Rattle.std.proofs.Common.{arith}
use Rattle.object_shelf.proofs.Entries.{find-place, find-no-place}
use Rattle.object_shelf.proofs.queue.find_in.Goals as goal

pub returns-then-place-len : goal.returns-then-place-len
returns-then-place-len c = find-place c.args.path.now c.args.rows.now.items c.entry_place-place.result c.index.result.now c.entry_place-place.ensures
    (omega (arith, c.len.ensures, c.if-place-len.true)) c.index.ensures

pub returns : goal.returns
returns c = find-no-place c.args.path.now c.args.rows.now.items c.entry_place-place.result c.entry_place-place.ensures
    (omega (arith, c.len.ensures, c.if-place-len.false))
