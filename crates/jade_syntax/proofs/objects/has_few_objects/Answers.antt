use Rattle.std.proofs.Common.{◌+◌, ◌<◌, drop, length, arith}
use Rattle.std.proofs.lemmas.Bool.Decides.{nat_tests}
use Rattle.jade_syntax.specs.Objects.{sizes}
use Rattle.jade_syntax.proofs.Counting.{one_less, too_many, objects_counted}
use Rattle.jade_syntax.proofs.objects.has_few_objects.Goals as goal

pub returns-then-objects-left : goal.returns-then-objects-left
returns-then-objects-left c =
    let items = c.args.items.now in
    let less : 4096 < length (sizes items) =
    too_many (λ xs. length (sizes xs)) items 4096 c.loop-i.left c.loop-i.i c.objects_of-objects.result.0 c.at.result.now c.at.ensures
    (objects_counted c.at.result.now c.objects_of-objects.result.0 c.objects_of-objects.ensures.count (drop (c.loop-i.i + 1) items)) c.loop-i.invariant
    c.if-objects-left.true in
    grind (arith, nat_tests, less)

pub loop-i-preserved : goal.loop-i-preserved
loop-i-preserved c =
    let items = c.args.items.now in
    one_less (λ xs. length (sizes xs)) items 4096 c.loop-i.left c.loop-i.i c.objects_of-objects.result.0 c.at.result.now c.at.ensures
    (objects_counted c.at.result.now c.objects_of-objects.result.0 c.objects_of-objects.ensures.count (drop (c.loop-i.i + 1) items)) c.loop-i.invariant
    c.if-objects-left.false
