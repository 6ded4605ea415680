use Rattle.jade_syntax.specs.Shapes.{name_extent}
use Rattle.jade_syntax.specs.declared.tree.Named.{Named}
use Rattle.jade_syntax.proofs.Measuring.{more}
use Rattle.jade_syntax.proofs.shapes.measure.names_extent.Goals as goal

pub loop-i-preserved : goal.loop-i-preserved
loop-i-preserved c = more (λ (n : Named). name_extent n.name) _ _ _ c.at.ensures c.loop-i.invariant c.name.ensures c.then-total.ensures
