use Rattle.std.proofs.Common.{sym, ◌∙◌}
use Rattle.jade_parser.proofs.Standing.{takes_sign, head_is, must_step}
use Rattle.jade_parser.proofs.leaves.expect.Goals as goal

pub returns-then-same : goal.returns-then-same
returns-then-same c = takes_sign _ _ _ _ _ (head_is _ _ _ _ c.same.ensures c.if-same.true (sym c.in-Some.is ∙ c.sign_at.ensures)) (must_step _)
