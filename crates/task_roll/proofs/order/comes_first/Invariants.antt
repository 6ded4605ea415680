use Rattle.std.proofs.Common.{◌≡◌, drop}
use Rattle.task_roll.specs.Order.{stands_before}
use Rattle.task_roll.proofs.order.comes_first.Given as goal

abbrev pub invariant-loop-i : goal.invariant-loop-i
invariant-loop-i l = stands_before (drop l.i l.first) (drop l.i l.other) ≡ stands_before l.first l.other
