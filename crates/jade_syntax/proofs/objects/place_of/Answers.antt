use Rattle.jade_syntax.proofs.Limits.{left_more, left_here}
use Rattle.jade_syntax.proofs.objects.place_of.Goals as goal

pub returns-then-left-count : goal.returns-then-left-count
returns-then-left-count c = left_here c.args.items.now c.args.object c.loop-i.i c.loop-i.left _ _ c.at.ensures c.objects_of-count.ensures.count
    c.if-left-count.true c.loop-i.invariant

pub loop-i-preserved : goal.loop-i-preserved
loop-i-preserved c = left_more c.args.items.now c.args.object c.loop-i.i c.loop-i.left _ _ c.at.ensures c.objects_of-count.ensures.count c.if-left-count.false
    c.loop-i.invariant
