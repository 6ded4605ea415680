use Rattle.std.proofs.Common.{sym, subst}
use Rattle.object_table.specs.Calls.{Pass, IsGone}
use Rattle.object_table.specs.steps.Kept.{shown}
use Rattle.object_table.proofs.RollCalls.{still_gone}
use Rattle.object_table.proofs.table.ObjectTable.hand_in.Goals as goal

pub returns-clause-gone : goal.returns-clause-gone
returns-clause-gone c =
    still_gone c.roll_place-place.result (shown c.pass.inside.task) (shown c.hand_in_at.new.task) c.hand_in_at.result c.hand_in_at.ensures.answer
    (subst (λ (p : Pass). IsGone p.shows) (sym c.pass.view_is) c.requires.gone)
