use Rattle.std.proofs.Common.{drop}
use Rattle.jade_types.proofs.Blocks.{Handing}
use Rattle.jade_types.proofs.faults.statements.visit_names.Given as goal

abbrev pub invariant-loop-i : goal.invariant-loop-i
invariant-loop-i l = Handing l.fn.notes l.notes l.scope l.body l.names (drop l.i l.names)
