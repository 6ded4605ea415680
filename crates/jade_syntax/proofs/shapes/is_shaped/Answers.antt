use Rattle.jade_syntax.proofs.Placing.{and_is}
use Rattle.jade_syntax.proofs.shapes.is_shaped.Goals as goal

pub returns-then-are_placed : goal.returns-then-are_placed
returns-then-are_placed c = and_is _ _ _ _ c.are_placed.ensures c.if-are_placed.true (c.is_within.ensures _ c.program_extent.ensures)
