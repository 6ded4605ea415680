use Rattle.std.proofs.Common.{take, drop}
use Rattle.jade_types.proofs.Counting.{Itemizing}
use Rattle.jade_types.proofs.faults.items.visit_items.Given as goal

abbrev pub invariant-loop-i : goal.invariant-loop-i
invariant-loop-i l = Itemizing l.fn.notes l.notes l.items (take l.i l.items) (drop l.i l.items) l.known l.room
