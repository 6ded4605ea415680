use Rattle.std.proofs.Common.{sym, ◌∙◌}
use Rattle.jade_parser.proofs.Standing.{product_leaf}
use Rattle.jade_parser.proofs.leaves.product_op.Goals as goal

pub returns-in-Some : goal.returns-in-Some
returns-in-Some c = product_leaf _ _ _ _ (sym c.in-Some.is ∙ c.sign_at.ensures) c.product_of.ensures
