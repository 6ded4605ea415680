use Rattle.std.proofs.Common.{take}
use Rattle.std.specs.List.{flat_map}
use Rattle.jade_syntax.specs.declared.tree.Expr.{out-Expr}
use Rattle.jade_syntax.specs.declared.tree.AndExpr.{out-AndExpr}
use Rattle.jade_syntax.specs.declared.tree.Sum.{out-Sum}
use Rattle.jade_syntax.specs.declared.tree.Product.{out-Product}
use Rattle.jade_layout.specs.Printed.{Adds}
use Rattle.jade_layout.proofs.Opened.{or_part, and_part, sum_part, product_part, sign_part}
use Rattle.jade_layout.proofs.expressions.+expr.Given as goal

abbrev pub invariant-put_and-loop-i : goal.invariant-put_and-loop-i
invariant-put_and-loop-i l =
    Adds l.initial.printer l.printer (flat_map and_part (take l.i (out-AndExpr l.e).rest))

abbrev pub invariant-put_expr-loop-i : goal.invariant-put_expr-loop-i
invariant-put_expr-loop-i l =
    Adds l.initial.printer l.printer (flat_map or_part (take l.i (out-Expr l.e).rest))

abbrev pub invariant-put_product-loop-i : goal.invariant-put_product-loop-i
invariant-put_product-loop-i l =
    Adds l.initial.printer l.printer (flat_map product_part (take l.i (out-Product l.e).rest))

abbrev pub invariant-put_sum-loop-i : goal.invariant-put_sum-loop-i
invariant-put_sum-loop-i l =
    Adds l.initial.printer l.printer (flat_map sum_part (take l.i (out-Sum l.e).rest))

abbrev pub invariant-put_unary-loop-i : goal.invariant-put_unary-loop-i
invariant-put_unary-loop-i l =
    Adds l.initial.printer l.printer (flat_map sign_part (take l.i l.e.signs))
