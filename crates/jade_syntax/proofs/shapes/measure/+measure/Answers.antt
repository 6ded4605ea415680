use Rattle.std.proofs.Common.{arith}
use Rattle.jade_syntax.specs.declared.tree.Expr.{out-Expr}
use Rattle.jade_syntax.specs.declared.tree.AndExpr.{out-AndExpr}
use Rattle.jade_syntax.specs.declared.tree.Sum.{out-Sum}
use Rattle.jade_syntax.specs.declared.tree.Product.{out-Product}
use Rattle.jade_syntax.proofs.Extents.{or_link, and_link, sum_link, product_link, expr_opens, and_opens, sum_opens, product_opens, cell_opens, as_opened}
use Rattle.jade_syntax.proofs.Measuring.{more, ends}
use Rattle.jade_syntax.proofs.shapes.measure.+measure.Goals as goal

pub and_extent-loop-i-preserved : goal.and_extent-loop-i-preserved
and_extent-loop-i-preserved t c =
    more and_link (out-AndExpr c.args.e.now).rest c.loop-i.i _ c.at.ensures c.loop-i.invariant (c.then.ensures.of c.signs.ensures c.compare_extent.ensures)
    c.then-total.ensures

pub and_extent-returns : goal.and_extent-returns
and_extent-returns t c = as_opened _ _ _ (and_opens c.args.e.now) (ends and_link (out-AndExpr c.args.e.now).rest c.loop-i.i (omega arith) c.loop-i.invariant)

pub expr_extent-loop-i-preserved : goal.expr_extent-loop-i-preserved
expr_extent-loop-i-preserved t c =
    more or_link (out-Expr c.args.e.now).rest c.loop-i.i _ c.at.ensures c.loop-i.invariant (c.then.ensures.of c.signs.ensures c.and_extent.ensures)
    c.then-total.ensures

pub expr_extent-returns : goal.expr_extent-returns
expr_extent-returns t c = as_opened _ _ _ (expr_opens c.args.e.now) (ends or_link (out-Expr c.args.e.now).rest c.loop-i.i (omega arith) c.loop-i.invariant)

pub product_extent-loop-i-preserved : goal.product_extent-loop-i-preserved
product_extent-loop-i-preserved t c =
    more product_link (out-Product c.args.e.now).rest c.loop-i.i _ c.at.ensures c.loop-i.invariant (c.then.ensures.of c.signs.ensures c.unary_extent.ensures)
    c.then-total.ensures

pub product_extent-returns : goal.product_extent-returns
product_extent-returns t c = as_opened _ _ _ (product_opens c.args.e.now)
    (ends product_link (out-Product c.args.e.now).rest c.loop-i.i (omega arith) c.loop-i.invariant)

pub sum_extent-loop-i-preserved : goal.sum_extent-loop-i-preserved
sum_extent-loop-i-preserved t c =
    more sum_link (out-Sum c.args.e.now).rest c.loop-i.i _ c.at.ensures c.loop-i.invariant (c.then.ensures.of c.signs.ensures c.product_extent.ensures)
    c.then-total.ensures

pub sum_extent-returns : goal.sum_extent-returns
sum_extent-returns t c = as_opened _ _ _ (sum_opens c.args.e.now) (ends sum_link (out-Sum c.args.e.now).rest c.loop-i.i (omega arith) c.loop-i.invariant)

pub cell_extent-returns : goal.cell_extent-returns
cell_extent-returns t c = as_opened _ _ _ (cell_opens c.args.e.now)
    (c.then-2.ensures.of (c.then.ensures.of c.name.ensures c.inner_index-index.ensures) (c.in_brackets-cell.ensures.of c.expr_extent.ensures))
