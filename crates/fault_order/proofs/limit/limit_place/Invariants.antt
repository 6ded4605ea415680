use Rattle.std.proofs.Common.{◌≡◌, ◌+◌, take}
use Rattle.fault_order.specs.Order.{steps_in}
use Rattle.fault_order.proofs.limit.limit_place.Given as goal

abbrev pub invariant-loop-i : goal.invariant-loop-i
invariant-loop-i l = l.left + steps_in (take l.i l.steps) ≡ l.limit
