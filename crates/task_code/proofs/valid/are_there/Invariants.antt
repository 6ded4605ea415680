use Rattle.std.proofs.Common.{◌≡◌, drop}
use Rattle.task_code.specs.Rules.{are_there}
use Rattle.task_code.proofs.valid.are_there.Given as goal

abbrev pub invariant-operands : goal.invariant-operands
invariant-operands l = are_there l.slots l.operands ≡ are_there l.slots (drop l.i l.operands)
