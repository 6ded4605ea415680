use Rattle.std.proofs.Common.{◌≡◌, ◌≤◌, drop, length}
use Rattle.task_codegen.specs.Compiled.{created}
use Rattle.task_codegen.proofs.Params.{names_of}
use Rattle.task_codegen.proofs.names.Names.created.Given as goal

abbrev pub invariant-loop-left : goal.invariant-loop-left
invariant-loop-left l = record {
  same : l.body ≡ created l.ranges (names_of (drop l.left l.names));
  within : l.left ≤ length l.names;
}

abbrev pub decreases-loop-left : goal.decreases-loop-left
decreases-loop-left l = l.left
