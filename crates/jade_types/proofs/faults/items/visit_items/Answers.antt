use Rattle.std.proofs.Common.{ap, take, arith}
use Rattle.jade_types.specs.steps.Scoped.{as_names}
use Rattle.jade_types.proofs.Counting.{items_none, items_more, items_end}
use Rattle.jade_types.proofs.faults.items.visit_items.Goals as goal

pub loop-i-init : goal.loop-i-init
loop-i-init c = items_none c.args.notes.now c.args.items.now _ _ (ap as_names c.none-known.ensures) c.whole-room.ensures

pub loop-i-preserved : goal.loop-i-preserved
loop-i-preserved c =
    items_more c.args.items.now c.loop-i.i c.at.result.now c.at.ensures c.loop-i.invariant
    (c.in_ok-visit_item.ensures (take c.loop-i.i c.args.items.now) c.loop-i.invariant.behind)

pub returns : goal.returns
returns c = let ended = items_end c.args.items.now c.loop-i.i (omega arith) c.loop-i.invariant in record { noted = ended.0; names = ended.1 }
