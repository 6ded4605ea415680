use Rattle.std.proofs.Common.{◌≡◌, take}
use Rattle.jade_syntax.specs.Objects.{sizes}
use Rattle.task_codegen.proofs.ranges.sizes.Given as goal

abbrev pub invariant-loop-i : goal.invariant-loop-i
invariant-loop-i l = l.sizes.items ≡ sizes (take l.i l.items)
