use Rattle.std.proofs.Common.{◌≡◌, ◌+◌, ◌-◌, arith}
use Rattle.task_codegen.proofs.Params.{one_created}
use Rattle.task_codegen.proofs.names.Names.created.Goals as goal

pub loop-left-preserved : goal.loop-left-preserved
loop-left-preserved c =
    let next : (c.loop-left.left - 1) + 1 ≡ c.loop-left.left = omega arith in
    record {
      same = one_created c.args.ranges.now c.args.names.now (c.loop-left.left - 1) c.loop-left.left _ c.loop-left.body _ _ c.at.ensures next
          c.loop-left.invariant.same c.next-slot.ensures c.in_ok-declare.ensures;
      within = omega (arith, c.loop-left.invariant.within);
    }
