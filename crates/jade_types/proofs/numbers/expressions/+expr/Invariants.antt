use Rattle.std.proofs.Common.{take}
use Rattle.std.specs.List.{flat_map}
use Rattle.jade_syntax.specs.declared.tree.Expr.{out-Expr}
use Rattle.jade_syntax.specs.declared.tree.AndExpr.{out-AndExpr}
use Rattle.jade_syntax.specs.declared.tree.Sum.{out-Sum}
use Rattle.jade_syntax.specs.declared.tree.Product.{out-Product}
use Rattle.jade_types.specs.steps.Bodies.{Puts, names_in}
use Rattle.jade_types.proofs.StandsOpened.{or_part, and_part, sum_part, product_part}
use Rattle.jade_types.proofs.numbers.expressions.+expr.Given as goal

abbrev pub invariant-number_and-loop-i : goal.invariant-number_and-loop-i
invariant-number_and-loop-i l = Puts l.initial.stands l.stands (flat_map (and_part (names_in l.body)) (take l.i (out-AndExpr l.e).rest))

abbrev pub invariant-number_expr-loop-i : goal.invariant-number_expr-loop-i
invariant-number_expr-loop-i l = Puts l.initial.stands l.stands (flat_map (or_part (names_in l.body)) (take l.i (out-Expr l.e).rest))

abbrev pub invariant-number_product-loop-i : goal.invariant-number_product-loop-i
invariant-number_product-loop-i l = Puts l.initial.stands l.stands (flat_map (product_part (names_in l.body)) (take l.i (out-Product l.e).rest))

abbrev pub invariant-number_sum-loop-i : goal.invariant-number_sum-loop-i
invariant-number_sum-loop-i l = Puts l.initial.stands l.stands (flat_map (sum_part (names_in l.body)) (take l.i (out-Sum l.e).rest))
