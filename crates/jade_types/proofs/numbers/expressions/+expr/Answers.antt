use Rattle.std.proofs.Common.{arith, sym}
use Rattle.std.proofs.lemmas.Result.{on_ok_weaker}
use Rattle.jade_syntax.specs.declared.tree.Expr.{out-Expr}
use Rattle.jade_syntax.specs.declared.tree.AndExpr.{out-AndExpr}
use Rattle.jade_syntax.specs.declared.tree.Sum.{out-Sum}
use Rattle.jade_syntax.specs.declared.tree.Product.{out-Product}
use Rattle.jade_types.specs.steps.Bodies.{names_in}
use Rattle.jade_types.proofs.StandsOpened.{or_part, and_part, sum_part, product_part, expr_opens, and_opens, sum_opens, product_opens, unary_opens}
use Rattle.jade_types.proofs.Putting.{after, told, more, all}
use Rattle.jade_types.proofs.numbers.expressions.+expr.Goals as goal

pub number_expr-loop-i-preserved : goal.number_expr-loop-i-preserved
number_expr-loop-i-preserved t c =
    more (or_part (names_in c.args.body.now)) (out-Expr c.args.e.now).rest c.loop-i.i _ c.at.ensures c.loop-i.invariant c.in_ok-number_and-2.ensures

pub number_expr-returns : goal.number_expr-returns
number_expr-returns t c =
    told (sym (expr_opens (names_in c.args.body.now) c.args.e.now))
    (after c.in_ok-number_and.ensures (all (or_part (names_in c.args.body.now)) _ c.loop-i.i (omega arith) c.loop-i.invariant))

pub number_and-loop-i-preserved : goal.number_and-loop-i-preserved
number_and-loop-i-preserved t c =
    more (and_part (names_in c.args.body.now)) (out-AndExpr c.args.e.now).rest c.loop-i.i _ c.at.ensures c.loop-i.invariant
    c.in_ok-number_compare-2.ensures

pub number_and-returns : goal.number_and-returns
number_and-returns t c =
    told (sym (and_opens (names_in c.args.body.now) c.args.e.now))
    (after c.in_ok-number_compare.ensures (all (and_part (names_in c.args.body.now)) _ c.loop-i.i (omega arith) c.loop-i.invariant))

pub number_sum-loop-i-preserved : goal.number_sum-loop-i-preserved
number_sum-loop-i-preserved t c =
    more (sum_part (names_in c.args.body.now)) (out-Sum c.args.e.now).rest c.loop-i.i _ c.at.ensures c.loop-i.invariant c.in_ok-number_product-2.ensures

pub number_sum-returns : goal.number_sum-returns
number_sum-returns t c =
    told (sym (sum_opens (names_in c.args.body.now) c.args.e.now))
    (after c.in_ok-number_product.ensures (all (sum_part (names_in c.args.body.now)) _ c.loop-i.i (omega arith) c.loop-i.invariant))

pub number_product-loop-i-preserved : goal.number_product-loop-i-preserved
number_product-loop-i-preserved t c =
    more (product_part (names_in c.args.body.now)) (out-Product c.args.e.now).rest c.loop-i.i _ c.at.ensures c.loop-i.invariant
    c.in_ok-number_unary-2.ensures

pub number_product-returns : goal.number_product-returns
number_product-returns t c =
    told (sym (product_opens (names_in c.args.body.now) c.args.e.now))
    (after c.in_ok-number_unary.ensures (all (product_part (names_in c.args.body.now)) _ c.loop-i.i (omega arith) c.loop-i.invariant))

pub number_unary-returns : goal.number_unary-returns
number_unary-returns t c = on_ok_weaker _ (told (sym (unary_opens (names_in c.args.body.now) c.args.e.now))) c.number_atom.ensures
