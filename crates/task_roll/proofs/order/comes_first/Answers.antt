use Rattle.std.proofs.Common.{◌∙◌, arith}
use Rattle.task_roll.proofs.InOrder.{ends}
use Rattle.task_roll.proofs.order.comes_first.Goals as goal

pub returns : goal.returns
returns c = ends c.args.first.now c.args.other.now c.loop-i.i (omega arith) ∙ c.loop-i.invariant
