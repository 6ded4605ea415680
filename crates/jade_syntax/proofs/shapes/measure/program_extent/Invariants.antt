use Rattle.std.proofs.Common.{take}
use Rattle.jade_syntax.specs.Shapes.{nothing, item_extent}
use Rattle.jade_syntax.proofs.Measuring.{Chained}
use Rattle.jade_syntax.proofs.shapes.measure.program_extent.Given as goal

abbrev pub invariant-loop-i : goal.invariant-loop-i
invariant-loop-i l = Chained item_extent nothing (take l.i l.items) l.total
