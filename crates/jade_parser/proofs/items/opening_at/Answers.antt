use Rattle.std.proofs.Common.{sym, ◌∙◌}
use Rattle.jade_parser.proofs.Declared.{opening_read, nothing_opens}
use Rattle.jade_parser.proofs.items.opening_at.Goals as goal

pub returns-in-Some : goal.returns-in-Some
returns-in-Some c = rw c.opening_of.ensures (opening_read _ _ _ (sym c.in-Some.is ∙ c.sign_at.ensures))

pub returns-in-None : goal.returns-in-None
returns-in-None c = nothing_opens _ _ (sym c.in-None.is ∙ c.sign_at.ensures)
