use Rattle.std.proofs.Common.{◌∙◌, sym, arith}
use Rattle.task_roll.proofs.InOrder.{lengths-differ, all-same}
use Rattle.task_roll.proofs.order.are_same.Goals as goal

pub returns-then-left-right : goal.returns-then-left-right
returns-then-left-right c = sym (lengths-differ c.args.left.now c.args.right.now (λ e. omega (arith, c.if-left-right.true, e)))

pub returns : goal.returns
returns c =
    sym (all-same c.args.left.now c.args.right.now c.loop-i.i (omega arith) (omega (arith, c.if-left-right.false))) ∙ c.loop-i.invariant
