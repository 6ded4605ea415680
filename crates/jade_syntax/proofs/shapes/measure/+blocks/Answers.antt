use Rattle.jade_syntax.specs.Shapes.{statement_extent}
use Rattle.jade_syntax.specs.declared.tree.Statement.TheVariants.{outs-Store, outs-Declare, outs-For, outs-Withonly, outs-With}
use Rattle.jade_syntax.proofs.Extents.{extent_arm}
use Rattle.jade_syntax.proofs.Placing.{if_outs}
use Rattle.jade_syntax.proofs.Measuring.{more}
use Rattle.jade_syntax.proofs.shapes.measure.+blocks.Goals as goal

pub block_extent-loop-i-preserved : goal.block_extent-loop-i-preserved
block_extent-loop-i-preserved t c = more statement_extent _ _ _ c.at.ensures c.loop-i.invariant c.statement_extent.ensures c.then-total.ensures

pub statement_extent-returns-in-None : goal.statement_extent-returns-in-None
statement_extent-returns-in-None t c =
    extent_arm _ _ _ _ c.in-If.is (if_outs _ _ _ _ c.in-None.is)
    (c.then.ensures.of (c.then-first.ensures.of c.test_extent.ensures c.block_extent.ensures) c.nothing.ensures)

pub statement_extent-returns-in-Some : goal.statement_extent-returns-in-Some
statement_extent-returns-in-Some t c =
    extent_arm _ _ _ _ c.in-If.is (if_outs _ _ _ _ c.in-Some.is)
    (c.then-in-Some-2.ensures.of (c.then-first.ensures.of c.test_extent.ensures c.block_extent.ensures)
    (c.then-in-Some.ensures.of c.signs.ensures c.block_extent-in-Some.ensures))

pub statement_extent-returns-in-With : goal.statement_extent-returns-in-With
statement_extent-returns-in-With t c =
    extent_arm _ _ _ _ c.in-With.is (outs-With _ _) (c.then-in-With.ensures.of c.signs-in-With.ensures c.block_extent-in-With.ensures)

pub statement_extent-returns-in-Store : goal.statement_extent-returns-in-Store
statement_extent-returns-in-Store t c = extent_arm _ _ _ _ c.in-Store.is (outs-Store _ _) c.store_extent.ensures

pub statement_extent-returns-in-For : goal.statement_extent-returns-in-For
statement_extent-returns-in-For t c =
    extent_arm _ _ _ _ c.in-For.is (outs-For _ _ _ _ _) (c.then-in-For.ensures.of c.bounds_extent.ensures c.block_extent-in-For.ensures)

pub statement_extent-returns-in-Withonly : goal.statement_extent-returns-in-Withonly
statement_extent-returns-in-Withonly t c =
    extent_arm _ _ _ _ c.in-Withonly.is (outs-Withonly _ _ _ _)
    (c.then-in-Withonly.ensures.of (c.then-handed.ensures.of (c.then-made.ensures.of c.signs-in-Withonly.ensures c.block_extent-in-Withonly.ensures)
    (c.in_brackets.ensures.of c.names_extent.ensures)) c.block_extent-in-Withonly-2.ensures)

pub statement_extent-returns-in-Declare : goal.statement_extent-returns-in-Declare
statement_extent-returns-in-Declare t c = extent_arm _ _ _ _ c.in-Declare.is (outs-Declare _ _ _) c.declare_extent.ensures
