use Rattle.task_codegen.specs.Variables.{key_shown}
use Rattle.task_codegen.proofs.Keying.{Seeking}
use Rattle.task_codegen.proofs.keys.among.Given as goal

abbrev pub invariant-loop-i : goal.invariant-loop-i
invariant-loop-i l = Seeking (key_shown l.key) l.seen.items l.i
