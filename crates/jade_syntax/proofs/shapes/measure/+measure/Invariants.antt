use Rattle.std.proofs.Common.{take}
use Rattle.jade_syntax.specs.declared.tree.Expr.{out-Expr}
use Rattle.jade_syntax.specs.declared.tree.AndExpr.{out-AndExpr}
use Rattle.jade_syntax.specs.declared.tree.Sum.{out-Sum}
use Rattle.jade_syntax.specs.declared.tree.Product.{out-Product}
use Rattle.jade_syntax.specs.Shapes.{and_extent, compare_extent, product_extent, unary_extent}
use Rattle.jade_syntax.proofs.Extents.{or_link, and_link, sum_link, product_link}
use Rattle.jade_syntax.proofs.Measuring.{Chained}
use Rattle.jade_syntax.proofs.shapes.measure.+measure.Given as goal

abbrev pub invariant-and_extent-loop-i : goal.invariant-and_extent-loop-i
invariant-and_extent-loop-i l = Chained and_link (compare_extent (out-AndExpr l.e).first) (take l.i (out-AndExpr l.e).rest) l.total

abbrev pub invariant-expr_extent-loop-i : goal.invariant-expr_extent-loop-i
invariant-expr_extent-loop-i l = Chained or_link (and_extent (out-Expr l.e).first) (take l.i (out-Expr l.e).rest) l.total

abbrev pub invariant-product_extent-loop-i : goal.invariant-product_extent-loop-i
invariant-product_extent-loop-i l = Chained product_link (unary_extent (out-Product l.e).first) (take l.i (out-Product l.e).rest) l.total

abbrev pub invariant-sum_extent-loop-i : goal.invariant-sum_extent-loop-i
invariant-sum_extent-loop-i l = Chained sum_link (product_extent (out-Sum l.e).first) (take l.i (out-Sum l.e).rest) l.total
