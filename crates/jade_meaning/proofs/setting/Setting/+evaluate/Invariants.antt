use Rattle.std.proofs.Common.{◌≤◌, length}
use Rattle.jade_syntax.specs.declared.tree.AndExpr.{out-AndExpr}
use Rattle.jade_syntax.specs.declared.tree.Expr.{out-Expr}
use Rattle.jade_syntax.specs.declared.tree.Product.{out-Product}
use Rattle.jade_syntax.specs.declared.tree.Sum.{out-Sum}
use Rattle.jade_syntax.specs.Image.{forms, expression, and_expression, sum_expression, product_expression, atom_expression}
use Rattle.jade_meaning.specs.steps.Evaluation.{source}
use Rattle.jade_syntax.specs.Forms.{or_link, and_link, sum_link, product_link}
use Rattle.jade_meaning.proofs.Chaining.{Going, Signing}
use Rattle.jade_meaning.proofs.setting.Setting.+evaluate.Given as goal

abbrev pub invariant-evaluate_and-loop-i : goal.invariant-evaluate_and-loop-i
invariant-evaluate_and-loop-i l = Going l.self.items l.task.scope l.task.spec (source l.cells) (and_expression l.e) l.fn.used _ (and_link forms)
    (out-AndExpr l.e).rest l.i l.value l.used

abbrev pub invariant-evaluate_product-loop-i : goal.invariant-evaluate_product-loop-i
invariant-evaluate_product-loop-i l = Going l.self.items l.task.scope l.task.spec (source l.cells) (product_expression l.e) l.fn.used _ (product_link forms)
    (out-Product l.e).rest l.i l.value l.used

abbrev pub invariant-evaluate_sum-loop-i : goal.invariant-evaluate_sum-loop-i
invariant-evaluate_sum-loop-i l = Going l.self.items l.task.scope l.task.spec (source l.cells) (sum_expression l.e) l.fn.used _ (sum_link forms)
    (out-Sum l.e).rest l.i l.value l.used

abbrev pub invariant-evaluate_unary-loop-left : goal.invariant-evaluate_unary-loop-left
invariant-evaluate_unary-loop-left l = record {
  signing : Signing l.self.items l.task.scope l.task.spec (source l.cells) (atom_expression l.e.atom) l.fn.used l.e.signs l.left l.value l.used;
  within : l.left ≤ length l.e.signs;
}

abbrev pub decreases-evaluate_unary-loop-left : goal.decreases-evaluate_unary-loop-left
decreases-evaluate_unary-loop-left l = l.left

abbrev pub invariant-evaluate-loop-i : goal.invariant-evaluate-loop-i
invariant-evaluate-loop-i l = Going l.self.items l.task.scope l.task.spec (source l.cells) (expression l.e) l.fn.used _ (or_link forms)
    (out-Expr l.e).rest l.i l.value
    l.used
