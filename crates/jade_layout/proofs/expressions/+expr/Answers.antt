use Rattle.std.proofs.Common.{arith}
use Rattle.std.proofs.lemmas.Result.{on_ok_weaker}
use Rattle.jade_syntax.specs.declared.tree.Expr.{out-Expr}
use Rattle.jade_syntax.specs.declared.tree.AndExpr.{out-AndExpr}
use Rattle.jade_syntax.specs.declared.tree.Sum.{out-Sum}
use Rattle.jade_syntax.specs.declared.tree.Product.{out-Product}
use Rattle.jade_layout.proofs.Opened.{or_part, and_part, sum_part, product_part, sign_part, expr_opens}
use Rattle.jade_layout.proofs.Opened.{and_opens, sum_opens, product_opens, unary_opens, cell_opens}
use Rattle.jade_layout.proofs.Opened.{compare_opens, group_opens}
use Rattle.jade_layout.proofs.Adding.{after, more, all}
use Rattle.jade_layout.proofs.expressions.+expr.Goals as goal

pub put_expr-loop-i-preserved : goal.put_expr-loop-i-preserved
put_expr-loop-i-preserved t c =
    more or_part _ _ _ (out-Expr c.args.e.now).rest c.loop-i.i _ c.at.ensures c.loop-i.invariant (after c.in_ok-put.ensures c.in_ok-put_and-2.ensures)

pub put_expr-returns : goal.put_expr-returns
put_expr-returns t c =
    rw (expr_opens c.args.e.now) (after c.in_ok-put_and.ensures (all or_part _ _ _ c.loop-i.i (omega arith) c.loop-i.invariant))

pub put_and-loop-i-preserved : goal.put_and-loop-i-preserved
put_and-loop-i-preserved t c =
    more and_part _ _ _ (out-AndExpr c.args.e.now).rest c.loop-i.i _ c.at.ensures c.loop-i.invariant (after c.in_ok-put.ensures c.in_ok-put_compare-2.ensures)

pub put_and-returns : goal.put_and-returns
put_and-returns t c =
    rw (and_opens c.args.e.now) (after c.in_ok-put_compare.ensures (all and_part _ _ _ c.loop-i.i (omega arith) c.loop-i.invariant))

pub put_sum-loop-i-preserved : goal.put_sum-loop-i-preserved
put_sum-loop-i-preserved t c =
    more sum_part _ _ _ (out-Sum c.args.e.now).rest c.loop-i.i _ c.at.ensures c.loop-i.invariant
    (after c.in_ok-put_sum_sign.ensures c.in_ok-put_product-2.ensures)

pub put_sum-returns : goal.put_sum-returns
put_sum-returns t c =
    rw (sum_opens c.args.e.now) (after c.in_ok-put_product.ensures (all sum_part _ _ _ c.loop-i.i (omega arith) c.loop-i.invariant))

pub put_product-loop-i-preserved : goal.put_product-loop-i-preserved
put_product-loop-i-preserved t c =
    more product_part _ _ _ (out-Product c.args.e.now).rest c.loop-i.i _ c.at.ensures c.loop-i.invariant
    (after c.in_ok-put_product_sign.ensures c.in_ok-put_unary-2.ensures)

pub put_product-returns : goal.put_product-returns
put_product-returns t c =
    rw (product_opens c.args.e.now) (after c.in_ok-put_unary.ensures (all product_part _ _ _ c.loop-i.i (omega arith) c.loop-i.invariant))

pub put_unary-loop-i-preserved : goal.put_unary-loop-i-preserved
put_unary-loop-i-preserved t c =
    more sign_part _ _ _ c.args.e.now.signs c.loop-i.i _ c.at.ensures c.loop-i.invariant c.in_ok-put_sign.ensures

pub put_unary-returns : goal.put_unary-returns
put_unary-returns t c =
    rw (unary_opens c.args.e.now)
    (on_ok_weaker _ (λ last. after (all sign_part _ _ _ c.loop-i.i (omega arith) c.loop-i.invariant) last) c.put_atom.ensures)

pub put_cell-returns : goal.put_cell-returns
put_cell-returns t c =
    rw (cell_opens c.args.e.now)
    (on_ok_weaker _ (λ last. after c.in_ok-put_name.ensures (after c.in_ok-put_member.ensures last)) c.put_index.ensures)

pub put_index-returns : goal.put_index-returns
put_index-returns t c = on_ok_weaker _ (λ last. after c.in_ok-put.ensures (after c.in_ok-put_expr.ensures last)) c.put-2.ensures

pub put_compare-returns-in_ok-put_relation-in-Some : goal.put_compare-returns-in_ok-put_relation-in-Some
put_compare-returns-in_ok-put_relation-in-Some t c =
    rw (compare_opens c.args.e.now, c.in-Some.is)
    (on_ok_weaker _ (λ last. after c.in_ok-put_sum.ensures (after c.in_ok-put_relation-in-Some.ensures last)) c.put_sum-in-Some.ensures)

pub put_atom-returns-in_ok-put_expr-in-Group : goal.put_atom-returns-in_ok-put_expr-in-Group
put_atom-returns-in_ok-put_expr-in-Group t c =
    rw (c.in-Group.is, group_opens c.in-Group.field-0 c.in-Group.inner)
    (on_ok_weaker _ (λ last. after c.in_ok-put-in-Group.ensures (after (rw c.deref.ensures at c.in_ok-put_expr-in-Group.ensures) last)) c.put-in-Group.ensures)
