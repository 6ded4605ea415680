use Rattle.std.proofs.Common.{◌≤◌, length, drop}
use Rattle.jade_syntax.specs.declared.tree.Expr.{out-Expr}
use Rattle.jade_syntax.specs.declared.tree.AndExpr.{out-AndExpr}
use Rattle.jade_syntax.specs.declared.tree.Sum.{out-Sum}
use Rattle.jade_syntax.specs.declared.tree.Product.{out-Product}
use Rattle.jade_syntax.specs.PlacedImage.{signed, atom_term}
use Rattle.jade_types.specs.steps.Noted.{Visited}
use Rattle.jade_types.specs.steps.Scoped.{in_scope}
use Rattle.jade_types.proofs.Chains.{linked_sites}
use Rattle.jade_types.proofs.Noting.{Left}
use Rattle.jade_syntax.specs.Forms.{or_link, and_link, sum_link, product_link}
use Rattle.jade_syntax.specs.PlacedImage.{forms}
use Rattle.jade_types.proofs.faults.expressions.+expr.Given as goal

abbrev pub invariant-visit_and-loop-i : goal.invariant-visit_and-loop-i
invariant-visit_and-loop-i l = Left l.initial.notes l.notes (linked_sites (and_link forms) (in_scope l.scope) (out-AndExpr l.e).rest)
    (linked_sites (and_link forms) (in_scope l.scope) (drop l.i (out-AndExpr l.e).rest))

abbrev pub invariant-visit_expr-loop-i : goal.invariant-visit_expr-loop-i
invariant-visit_expr-loop-i l =
    Left l.initial.notes l.notes (linked_sites (or_link forms) (in_scope l.scope) (out-Expr l.e).rest)
    (linked_sites (or_link forms) (in_scope l.scope) (drop l.i (out-Expr l.e).rest))

abbrev pub invariant-visit_product-loop-i : goal.invariant-visit_product-loop-i
invariant-visit_product-loop-i l =
    Left l.initial.notes l.notes (linked_sites (product_link forms) (in_scope l.scope) (out-Product l.e).rest)
    (linked_sites (product_link forms) (in_scope l.scope) (drop l.i (out-Product l.e).rest))

abbrev pub invariant-visit_sum-loop-i : goal.invariant-visit_sum-loop-i
invariant-visit_sum-loop-i l = Left l.initial.notes l.notes (linked_sites (sum_link forms) (in_scope l.scope) (out-Sum l.e).rest)
    (linked_sites (sum_link forms) (in_scope l.scope) (drop l.i (out-Sum l.e).rest))

abbrev pub invariant-visit_unary-loop-left : goal.invariant-visit_unary-loop-left
invariant-visit_unary-loop-left l = record {
  within : l.left ≤ length l.e.signs;
  visited : Visited l.fn.notes l.notes l.seen (in_scope l.scope) (signed (drop l.left l.e.signs) (atom_term l.e.atom));
}

abbrev pub decreases-visit_unary-loop-left : goal.decreases-visit_unary-loop-left
decreases-visit_unary-loop-left l = l.left
