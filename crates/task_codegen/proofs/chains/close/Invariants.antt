use Rattle.task_codegen.proofs.Patching.{Closing}
use Rattle.task_codegen.proofs.chains.close.Given as goal

abbrev pub invariant-loop-left : goal.invariant-loop-left
invariant-loop-left l = Closing l.places.items l.initial.code.items l.code.items l.left

abbrev pub decreases-loop-left : goal.decreases-loop-left
decreases-loop-left l = l.left
