use Rattle.std.proofs.Common.{take}
use Rattle.jade_syntax.specs.Shapes.{nothing, statement_extent}
use Rattle.jade_syntax.proofs.Measuring.{Chained}
use Rattle.jade_syntax.proofs.shapes.measure.+blocks.Given as goal

abbrev pub invariant-block_extent-loop-i : goal.invariant-block_extent-loop-i
invariant-block_extent-loop-i l = Chained statement_extent nothing (take l.i l.block) l.total
