use Rattle.task_codegen.proofs.Wants.{Flat}
use Rattle.task_codegen.proofs.wanted.+flat.Given as goal

abbrev pub invariant-all_flat-loop-i : goal.invariant-all_flat-loop-i
invariant-all_flat-loop-i l = Flat l.block l.i
