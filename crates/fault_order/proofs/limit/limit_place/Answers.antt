use Rattle.std.proofs.Common.{arith}
use Rattle.fault_order.proofs.Sums.{steps_in-more}
use Rattle.fault_order.proofs.limit.limit_place.Goals as goal

pub loop-i-preserved : goal.loop-i-preserved
loop-i-preserved c = omega (arith, steps_in-more c.args.steps.now c.loop-i.i c.at-part.result.now c.at-part.ensures)
