use Rattle.std.specs.List.{IsFirstBest}
use Rattle.fault_order.specs.Order.{comes_before}
use Rattle.fault_order.proofs.note.first.Given as goal

abbrev pub invariant-loop-i : goal.invariant-loop-i
invariant-loop-i l = IsFirstBest comes_before l.notes l.i l.best
