use Rattle.std.proofs.Common.{◌≡◌, ◌≤◌, drop, length}
use Rattle.task_codegen.proofs.Params.{given}
use Rattle.task_codegen.proofs.names.Names.given.Given as goal

abbrev pub invariant-loop-left : goal.invariant-loop-left
invariant-loop-left l = record {
  same : l.body ≡ given l.ranges (drop l.left l.ranges);
  within : l.left ≤ length l.ranges;
}

abbrev pub decreases-loop-left : goal.decreases-loop-left
decreases-loop-left l = l.left
