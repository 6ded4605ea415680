use Rattle.std.proofs.Common.{sym, ◌∙◌}
use Rattle.jade_parser.proofs.Standing.{relation_leaf}
use Rattle.jade_parser.proofs.leaves.relation.Goals as goal

pub returns-in-Some : goal.returns-in-Some
returns-in-Some c = relation_leaf _ _ _ _ (sym c.in-Some.is ∙ c.sign_at.ensures) c.relation_of.ensures
