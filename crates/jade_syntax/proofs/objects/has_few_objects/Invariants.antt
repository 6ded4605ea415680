use Rattle.std.proofs.Common.{length}
use Rattle.jade_syntax.specs.Objects.{sizes}
use Rattle.jade_syntax.proofs.Counting.{Left}
use Rattle.jade_syntax.proofs.objects.has_few_objects.Given as goal

abbrev pub invariant-loop-i : goal.invariant-loop-i
invariant-loop-i l = Left (λ xs. length (sizes xs)) l.items 4096 l.left l.i
