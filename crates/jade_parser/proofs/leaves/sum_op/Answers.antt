use Rattle.std.proofs.Common.{sym, ◌∙◌}
use Rattle.jade_parser.proofs.Standing.{sum_leaf}
use Rattle.jade_parser.proofs.leaves.sum_op.Goals as goal

pub returns-in-Some : goal.returns-in-Some
returns-in-Some c = sum_leaf _ _ _ _ (sym c.in-Some.is ∙ c.sign_at.ensures) c.sum_of.ensures
