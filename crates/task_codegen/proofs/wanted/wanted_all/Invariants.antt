use Rattle.std.proofs.Common.{map}
use Rattle.jade_syntax.specs.Image.{expression}
use Rattle.task_translation.specs.Compile.{is_candidate}
use Rattle.task_codegen.proofs.Wants.{Passed}
use Rattle.task_codegen.proofs.wanted.wanted_all.Given as goal

abbrev pub invariant-loop-i : goal.invariant-loop-i
invariant-loop-i l = Passed (is_candidate l.names.scope l.n) l.body (map (λ x. expression x.now) l.fn.list.items) (map (λ x. expression x.now) l.list.items) l.i
