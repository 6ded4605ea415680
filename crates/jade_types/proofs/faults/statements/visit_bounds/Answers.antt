use Rattle.jade_types.proofs.Noting.{after}
use Rattle.jade_types.proofs.faults.statements.visit_bounds.Goals as goal

pub returns : goal.returns
returns c = after c.visit_declared.ensures (after c.visit_needed.ensures c.visit_needed-2.ensures)
