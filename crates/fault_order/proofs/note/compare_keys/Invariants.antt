use Rattle.std.proofs.Common.{◌≡◌, [], ◌∷◌, ◌++◌, drop}
use Rattle.jade_base.specs.Places.{key, path_order}
use Rattle.fault_order.proofs.note.compare_keys.Given as goal

abbrev pub invariant-loop-i : goal.invariant-loop-i
invariant-loop-i l =
    path_order (drop l.i l.left ++ l.children ∷ []) (drop l.i l.right ++ l.others ∷ []) ≡ path_order (key l.left l.children) (key l.right l.others)
