use Rattle.task_codegen.proofs.Ranging.{one_more}
use Rattle.task_codegen.proofs.ranges.push_many.Goals as goal

pub loop-preserved : goal.loop-preserved
loop-preserved c =
    one_more c.args.sizes.now.items c.loop.sizes.items c.push.new.self.items c.loop.counter c.args.size c.in_ok-push.ensures.items c.loop.invariant
