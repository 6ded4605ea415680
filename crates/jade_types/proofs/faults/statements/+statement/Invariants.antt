use Rattle.std.proofs.Common.{drop}
use Rattle.jade_types.proofs.Blocks.{Blocking}
use Rattle.jade_types.proofs.faults.statements.+statement.Given as goal

abbrev pub invariant-visit_block-loop-i : goal.invariant-visit_block-loop-i
invariant-visit_block-loop-i l = Blocking l.fn.notes l.notes l.fn.scope l.scope l.statements (drop l.i l.statements)
