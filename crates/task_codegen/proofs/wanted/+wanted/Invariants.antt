use Rattle.std.proofs.Common.{map}
use Rattle.jade_syntax.specs.declared.tree.Sum.{out-Sum}
use Rattle.jade_syntax.specs.declared.tree.Product.{out-Product}
use Rattle.jade_syntax.specs.Image.{expression, product_expression, unary_expression}
use Rattle.task_translation.specs.Compile.{is_candidate}
use Rattle.task_codegen.proofs.Opening.{sum_link, product_link}
use Rattle.task_codegen.proofs.Wants.{Walked}
use Rattle.task_codegen.proofs.wanted.+wanted.Given as goal

abbrev pub invariant-wanted_sum-loop-i : goal.invariant-wanted_sum-loop-i
invariant-wanted_sum-loop-i l = Walked (is_candidate l.names.scope l.n) sum_link (product_expression (out-Sum l.e).first) (out-Sum l.e).rest
    (map (λ x. expression x.now) l.fn.list.items) (map (λ x. expression x.now) l.list.items) l.i

abbrev pub invariant-wanted_product-loop-i : goal.invariant-wanted_product-loop-i
invariant-wanted_product-loop-i l = Walked (is_candidate l.names.scope l.n) product_link (unary_expression (out-Product l.e).first) (out-Product l.e).rest
    (map (λ x. expression x.now) l.fn.list.items) (map (λ x. expression x.now) l.list.items) l.i
