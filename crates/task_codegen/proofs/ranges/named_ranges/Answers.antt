use Rattle.std.proofs.Common.{◌≡◌, ◌+◌, ◌-◌, arith}
use Rattle.task_codegen.proofs.Ranging.{room_before, one_found}
use Rattle.task_codegen.proofs.ranges.named_ranges.Goals as goal

pub declare_item-requires : goal.declare_item-requires
declare_item-requires c =
    let next : (c.loop-left.left - 1) + 1 ≡ c.loop-left.left = omega arith in
    room_before c.args.items.now (c.loop-left.left - 1) c.loop-left.left c.at.result.now c.loop-left.named c.loop-left.first c.at.ensures next
    c.loop-left.invariant

pub loop-left-preserved : goal.loop-left-preserved
loop-left-preserved c =
    let next : (c.loop-left.left - 1) + 1 ≡ c.loop-left.left = omega arith in
    one_found c.args.items.now (c.loop-left.left - 1) c.loop-left.left c.at.result.now c.loop-left.named _ c.loop-left.first _ c.at.ensures next
    c.loop-left.invariant c.in_ok-first.ensures
