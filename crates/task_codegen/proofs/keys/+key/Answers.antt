use Rattle.std.proofs.Common.{refl, ◌∙◌, arith}
use Rattle.std.proofs.lemmas.Result.{IfOk-weaker}
use Rattle.jade_syntax.specs.declared.tree.Expr.{out-Expr}
use Rattle.jade_syntax.specs.declared.tree.AndExpr.{out-AndExpr}
use Rattle.jade_syntax.specs.declared.tree.Sum.{out-Sum}
use Rattle.jade_syntax.specs.declared.tree.Product.{out-Product}
use Rattle.jade_syntax.specs.Image.{and_expression, compare_expression, product_expression, unary_expression, atom_expression}
use Rattle.code_meaning.specs.declared.code.BinaryOp.TheVariants as op
use Rattle.task_codegen.proofs.Opening.{or_link, and_link, sum_link, product_link, expr_opens, and_opens, sum_opens, product_opens, unary_opens}
use Rattle.task_codegen.proofs.Keying.{or_key, and_key, alone_key, signed_key, key_more, key_ends}
use Rattle.task_codegen.proofs.keys.+key.Goals as goal

pub key_of-returns-then-len-gt0 : goal.key_of-returns-then-len-gt0
key_of-returns-then-len-gt0 t c =
    or_key c.args.names.now.scope (and_expression (out-Expr c.args.e.now).first) _ (out-Expr c.args.e.now).rest (expr_opens c.args.e.now)
    (omega (arith, c.len.ensures, c.if-len-gt0.true))

pub and_key-returns-then-len-gt0 : goal.and_key-returns-then-len-gt0
and_key-returns-then-len-gt0 t c =
    and_key c.args.names.now.scope (compare_expression (out-AndExpr c.args.e.now).first) _ (out-AndExpr c.args.e.now).rest (and_opens c.args.e.now)
    (omega (arith, c.len.ensures, c.if-len-gt0.true))

pub unary_key-returns-then-len-gt0 : goal.unary_key-returns-then-len-gt0
unary_key-returns-then-len-gt0 t c =
    signed_key c.args.names.now.scope c.args.e.now.signs (atom_expression c.args.e.now.atom) _ (unary_opens c.args.e.now)
    (omega (arith, c.len.ensures, c.if-len-gt0.true))

pub key_of-returns : goal.key_of-returns
key_of-returns t c =
    IfOk-weaker c.and_key.result _ _
    (λ k p. p ∙ alone_key c.args.names.now.scope or_link (and_expression (out-Expr c.args.e.now).first) _ (out-Expr c.args.e.now).rest (expr_opens c.args.e.now)
    (omega (arith, c.len.ensures, c.if-len-gt0.false)))
    c.and_key.ensures

pub and_key-returns : goal.and_key-returns
and_key-returns t c =
    IfOk-weaker c.compare_key.result _ _
    (λ k p. p ∙ alone_key c.args.names.now.scope and_link (compare_expression (out-AndExpr c.args.e.now).first) _ (out-AndExpr c.args.e.now).rest
    (and_opens c.args.e.now) (omega (arith, c.len.ensures, c.if-len-gt0.false)))
    c.compare_key.ensures

pub sum_key-loop-i-preserved : goal.sum_key-loop-i-preserved
sum_key-loop-i-preserved t c =
    key_more c.args.names.now.scope sum_link (product_expression (out-Sum c.args.e.now).first) (out-Sum c.args.e.now).rest (λ p. op.Adds p.0)
    (λ x k ls. refl) c.loop-i.i _ c.at.ensures _ _ _ c.loop-i.invariant c.in_ok-next.ensures c.in_ok-all-2.ensures

pub sum_key-returns : goal.sum_key-returns
sum_key-returns t c =
    key_ends c.args.names.now.scope sum_link (product_expression (out-Sum c.args.e.now).first) (out-Sum c.args.e.now).rest _ (sum_opens c.args.e.now) _
    c.loop-i.i (omega (arith, c.len-i-end.ensures, c.loop-i-test.false)) c.loop-i.invariant

pub product_key-loop-i-preserved : goal.product_key-loop-i-preserved
product_key-loop-i-preserved t c =
    key_more c.args.names.now.scope product_link (unary_expression (out-Product c.args.e.now).first) (out-Product c.args.e.now).rest (λ p. op.Multiplies p.0)
    (λ x k ls. refl) c.loop-i.i _ c.at.ensures _ _ _ c.loop-i.invariant c.in_ok-next.ensures c.in_ok-all-2.ensures

pub product_key-returns : goal.product_key-returns
product_key-returns t c =
    key_ends c.args.names.now.scope product_link (unary_expression (out-Product c.args.e.now).first) (out-Product c.args.e.now).rest _
    (product_opens c.args.e.now) _ c.loop-i.i (omega (arith, c.len-i-end.ensures, c.loop-i-test.false)) c.loop-i.invariant
