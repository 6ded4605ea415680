use Rattle.task_codegen.specs.Variables.{key_shown}
use Rattle.task_codegen.proofs.Keying.{Looking}
use Rattle.task_codegen.proofs.keys.look.Given as goal

abbrev pub invariant-loop-i : goal.invariant-loop-i
invariant-loop-i l = Looking (key_shown l.key) l.kept.items l.i
