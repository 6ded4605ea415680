use Rattle.std.proofs.Common.{refl, sym, ◌∙◌}
use Rattle.jade_parser.proofs.Standing.{takes_sign, head_is}
use Rattle.jade_parser.proofs.leaves.bracket.Goals as goal

pub returns-in-Some-clause-first : goal.returns-in-Some-clause-first
returns-in-Some-clause-first c = λ t. takes_sign _ _ _ _ _ (head_is _ _ _ _ c.same.ensures t (sym c.in-Some.is ∙ c.sign_at.ensures)) (λ rest st. refl)

pub returns-in-Some-clause-second : goal.returns-in-Some-clause-second
returns-in-Some-clause-second c = λ t. takes_sign _ _ _ _ _ (head_is _ _ _ _ c.same.ensures t (sym c.in-Some.is ∙ c.sign_at.ensures)) (λ rest st. refl)
