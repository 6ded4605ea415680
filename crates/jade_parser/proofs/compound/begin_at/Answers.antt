use Rattle.std.proofs.Common.{sym, ◌∙◌}
use Rattle.jade_parser.proofs.Compounds.{begin_predicted}
use Rattle.jade_parser.proofs.compound.begin_at.Goals as goal

pub returns-in-Some : goal.returns-in-Some
returns-in-Some c = rw c.begin_of.ensures (begin_predicted _ _ _ _ (sym c.in-Some.is ∙ c.sign_at.ensures))
