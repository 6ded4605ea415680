use Rattle.std.proofs.Common.{refl, sym, ◌∙◌}
use Rattle.jade_parser.proofs.Standing.{takes_marked, head_is}
use Rattle.jade_parser.proofs.leaves.or_op.Goals as goal

pub returns-in-Some-clause-yes : goal.returns-in-Some-clause-yes
returns-in-Some-clause-yes c = λ t. takes_marked _ _ _ _ _ (head_is _ _ _ _ c.same.ensures t (sym c.in-Some.is ∙ c.sign_at.ensures)) (λ rest st. refl)
