use Rattle.std.proofs.Common.{◌≡◌, drop}
use Rattle.jade_base.specs.Places.{same_path}
use Rattle.task_roll.proofs.order.are_same.Given as goal

abbrev pub invariant-loop-i : goal.invariant-loop-i
invariant-loop-i l = same_path (drop l.i l.left) (drop l.i l.right) ≡ same_path l.left l.right
