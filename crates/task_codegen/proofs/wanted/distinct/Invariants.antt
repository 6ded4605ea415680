use Rattle.jade_syntax.specs.Image.{expression}
use Rattle.task_codegen.specs.Variables.{key_shown}
use Rattle.task_codegen.proofs.Wants.{Sorted}
use Rattle.task_codegen.proofs.wanted.distinct.Given as goal

abbrev pub invariant-loop-i : goal.invariant-loop-i
invariant-loop-i l = Sorted l.names.scope (λ x. expression x.now) key_shown l.all.items l.list.items l.seen.items l.i
