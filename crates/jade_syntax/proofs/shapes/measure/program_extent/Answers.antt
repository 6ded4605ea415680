use Rattle.jade_syntax.specs.Shapes.{item_extent}
use Rattle.jade_syntax.proofs.Measuring.{more}
use Rattle.jade_syntax.proofs.shapes.measure.program_extent.Goals as goal

pub loop-i-preserved : goal.loop-i-preserved
loop-i-preserved c = more item_extent _ _ _ c.at.ensures c.loop-i.invariant c.item_extent.ensures c.then-total.ensures
