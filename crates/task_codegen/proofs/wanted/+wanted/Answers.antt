use Rattle.std.proofs.Common.{refl, arith}
use Rattle.std.proofs.lemmas.Result.{on_ok_weaker}
use Rattle.jade_syntax.specs.declared.tree.Expr.{out-Expr}
use Rattle.jade_syntax.specs.declared.tree.AndExpr.{out-AndExpr}
use Rattle.jade_syntax.specs.declared.tree.Sum.{out-Sum}
use Rattle.jade_syntax.specs.declared.tree.Product.{out-Product}
use Rattle.jade_syntax.specs.Image.{and_expression, compare_expression, product_expression, unary_expression, atom_expression}
use Rattle.task_translation.specs.Compile.{is_candidate}
use Rattle.task_codegen.proofs.Opening.{sum_link, product_link, expr_opens, and_opens, sum_opens, product_opens, unary_opens}
use Rattle.task_codegen.proofs.Wants.{listed, or_wanted, and_wanted, signed_wanted, walk_more, walk_ends}
use Rattle.task_codegen.proofs.wanted.+wanted.Goals as goal

pub wanted-returns : goal.wanted-returns
wanted-returns t c =
    let e = c.args.e.now in
    on_ok_weaker c.wanted_and.result
    (λ p. listed (or_wanted (is_candidate c.args.names.now.scope c.args.n) (and_expression (out-Expr e).first) _ (out-Expr e).rest (expr_opens e)) p)
    c.wanted_and.ensures

pub wanted_and-returns : goal.wanted_and-returns
wanted_and-returns t c =
    let e = c.args.e.now in
    on_ok_weaker c.wanted_compare.result
    (λ p. listed (and_wanted (is_candidate c.args.names.now.scope c.args.n) (compare_expression (out-AndExpr e).first) _ (out-AndExpr e).rest (and_opens e)) p)
    c.wanted_compare.ensures

pub wanted_sum-loop-i-preserved : goal.wanted_sum-loop-i-preserved
wanted_sum-loop-i-preserved t c =
    let e = c.args.e.now in
    walk_more (is_candidate c.args.names.now.scope c.args.n) sum_link (product_expression (out-Sum e).first) (out-Sum e).rest (λ y ls. refl) c.loop-i.i _
    c.at.ensures c.loop-i.invariant c.in_ok-wanted_product-2.ensures

pub wanted_sum-returns : goal.wanted_sum-returns
wanted_sum-returns t c =
    let e = c.args.e.now in
    walk_ends (is_candidate c.args.names.now.scope c.args.n) sum_link (product_expression (out-Sum e).first) (out-Sum e).rest _ (sum_opens e) c.loop-i.i
    (omega (arith, c.len-i-end.ensures, c.loop-i-test.false)) c.loop-i.invariant

pub wanted_product-loop-i-preserved : goal.wanted_product-loop-i-preserved
wanted_product-loop-i-preserved t c =
    let e = c.args.e.now in
    walk_more (is_candidate c.args.names.now.scope c.args.n) product_link (unary_expression (out-Product e).first) (out-Product e).rest (λ y ls. refl)
    c.loop-i.i _ c.at.ensures c.loop-i.invariant c.in_ok-wanted_unary-2.ensures

pub wanted_product-returns : goal.wanted_product-returns
wanted_product-returns t c =
    let e = c.args.e.now in
    walk_ends (is_candidate c.args.names.now.scope c.args.n) product_link (unary_expression (out-Product e).first) (out-Product e).rest _ (product_opens e)
    c.loop-i.i (omega (arith, c.len-i-end.ensures, c.loop-i-test.false)) c.loop-i.invariant

pub wanted_unary-returns : goal.wanted_unary-returns
wanted_unary-returns t c =
    let e = c.args.e.now in
    on_ok_weaker c.wanted_atom.result
    (λ p. listed (signed_wanted (is_candidate c.args.names.now.scope c.args.n) e.signs (atom_expression e.atom) _ (unary_opens e)) p)
    c.wanted_atom.ensures
