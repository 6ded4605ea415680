use Rattle.std.proofs.Common.{◌≡◌, drop}
use Rattle.jade_base.specs.Places.{path_order}
use Rattle.jade_base.proofs.path.compare_lists.Given as goal

abbrev pub invariant-loop-i : goal.invariant-loop-i
invariant-loop-i l = path_order (drop l.i l.left) (drop l.i l.right) ≡ path_order l.left l.right
