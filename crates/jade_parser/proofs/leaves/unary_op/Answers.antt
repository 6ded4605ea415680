use Rattle.std.proofs.Common.{sym, ◌∙◌}
use Rattle.jade_parser.proofs.Standing.{unary_leaf}
use Rattle.jade_parser.proofs.leaves.unary_op.Goals as goal

pub returns-in-Some : goal.returns-in-Some
returns-in-Some c = unary_leaf _ _ _ _ (sym c.in-Some.is ∙ c.sign_at.ensures) c.unary_of.ensures
