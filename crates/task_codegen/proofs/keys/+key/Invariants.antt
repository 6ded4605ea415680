use Rattle.std.specs.Option.{option_map}
use Rattle.jade_syntax.specs.declared.tree.Sum.{out-Sum}
use Rattle.jade_syntax.specs.declared.tree.Product.{out-Product}
use Rattle.jade_syntax.specs.Image.{product_expression, unary_expression}
use Rattle.task_codegen.specs.Variables.{key_shown}
use Rattle.task_codegen.proofs.Opening.{sum_link, product_link}
use Rattle.task_codegen.proofs.Keying.{Keyed}
use Rattle.task_codegen.proofs.keys.+key.Given as goal

abbrev pub invariant-sum_key-loop-i : goal.invariant-sum_key-loop-i
invariant-sum_key-loop-i l = Keyed l.names.scope sum_link (product_expression (out-Sum l.e).first) (out-Sum l.e).rest (option_map key_shown l.all) l.i

abbrev pub invariant-product_key-loop-i : goal.invariant-product_key-loop-i
invariant-product_key-loop-i l = Keyed l.names.scope product_link (unary_expression (out-Product l.e).first) (out-Product l.e).rest (option_map key_shown l.all) l.i
