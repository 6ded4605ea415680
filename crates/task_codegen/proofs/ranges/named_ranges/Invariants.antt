use Rattle.task_codegen.proofs.Ranging.{FoundFrom}
use Rattle.task_codegen.proofs.ranges.named_ranges.Given as goal

abbrev pub invariant-loop-left : goal.invariant-loop-left
invariant-loop-left l = FoundFrom l.items l.named l.first l.left

abbrev pub decreases-loop-left : goal.decreases-loop-left
decreases-loop-left l = l.left
