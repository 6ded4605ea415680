use Rattle.std.proofs.Common.{◌≡◌, ◌≤◌, drop, length}
use Rattle.task_translation.specs.Room.{reaches}
use Rattle.task_codegen.proofs.slots.reaches.Given as goal

abbrev pub invariant-operands : goal.invariant-operands
invariant-operands l = record {
  same : l.most ≡ reaches (drop l.left l.operands);
  within : l.left ≤ length l.operands;
}

abbrev pub decreases-operands : goal.decreases-operands
decreases-operands l = l.left
