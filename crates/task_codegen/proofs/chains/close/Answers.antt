use Rattle.std.proofs.Common.{◌≡◌, ◌+◌, ◌-◌, arith}
use Rattle.task_codegen.proofs.Patching.{one_closed}
use Rattle.task_codegen.proofs.chains.close.Goals as goal

pub loop-left-preserved : goal.loop-left-preserved
loop-left-preserved c =
    let next : (c.loop-left.left - 1) + 1 ≡ c.loop-left.left = omega arith in
    one_closed c.args.places.now.items _ _ _ c.loop-left.left (c.loop-left.left - 1) _ next c.index-at.ensures c.loop-left.invariant c.in_ok-patch.ensures
