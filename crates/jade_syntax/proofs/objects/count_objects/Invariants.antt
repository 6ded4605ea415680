use Rattle.std.proofs.Common.{◌≡◌, ◌+◌, length, drop}
use Rattle.jade_syntax.specs.Objects.{sizes}
use Rattle.jade_syntax.proofs.objects.count_objects.Given as goal

abbrev pub invariant-loop-i : goal.invariant-loop-i
invariant-loop-i l = l.count + length (sizes (drop l.i l.items)) ≡ length (sizes l.items)
