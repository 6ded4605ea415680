use Rattle.std.proofs.Common.{◌≡◌, ◌++◌, replicate}
use Rattle.task_codegen.proofs.ranges.push_many.Given as goal

abbrev pub invariant-loop : goal.invariant-loop
invariant-loop l = l.sizes.items ≡ l.initial.sizes.items ++ replicate l.counter l.size
