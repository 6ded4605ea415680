use Rattle.std.proofs.Common.{◌≡◌, ◌+◌, length, drop}
use Rattle.jade_syntax.specs.Objects.{input_names}
use Rattle.jade_syntax.proofs.objects.count_inputs.Given as goal

abbrev pub invariant-loop-i : goal.invariant-loop-i
invariant-loop-i l = l.count + length (input_names (drop l.i l.items)) ≡ length (input_names l.items)
