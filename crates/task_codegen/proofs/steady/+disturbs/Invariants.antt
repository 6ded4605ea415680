use Rattle.task_codegen.specs.Variables.{key_shown}
use Rattle.task_codegen.proofs.Steadiness.{Stirring}
use Rattle.task_codegen.proofs.steady.+disturbs.Given as goal

abbrev pub invariant-all_disturb-loop-i : goal.invariant-all_disturb-loop-i
invariant-all_disturb-loop-i l = Stirring l.block l.initial.names l.names (key_shown l.key) l.any l.i
