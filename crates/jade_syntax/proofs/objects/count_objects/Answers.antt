use Rattle.std.proofs.Common.{length, arith}
use Rattle.jade_syntax.specs.Objects.{sizes}
use Rattle.jade_syntax.proofs.Limits.{objects_step}
use Rattle.jade_syntax.proofs.objects.count_objects.Goals as goal

pub overflow_add-count : goal.overflow_add-count
overflow_add-count c =
    let e = objects_step c.args.items.now c.loop-i.i c.loop-i.count (length (sizes c.args.items.now)) _ c.at.ensures c.loop-i.invariant in
    omega (arith, e, c.requires, c.objects_of-objects.ensures.count)

pub loop-i-preserved : goal.loop-i-preserved
loop-i-preserved c = rw c.objects_of-objects.ensures.count
    (objects_step c.args.items.now c.loop-i.i c.loop-i.count (length (sizes c.args.items.now)) _ c.at.ensures c.loop-i.invariant)
