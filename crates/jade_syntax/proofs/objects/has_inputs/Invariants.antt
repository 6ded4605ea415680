use Rattle.std.proofs.Common.{length}
use Rattle.jade_syntax.specs.Objects.{input_names}
use Rattle.jade_syntax.proofs.Counting.{Left}
use Rattle.jade_syntax.proofs.objects.has_inputs.Given as goal

abbrev pub invariant-loop-i : goal.invariant-loop-i
invariant-loop-i l = Left (λ xs. length (input_names xs)) l.items l.count l.left l.i
