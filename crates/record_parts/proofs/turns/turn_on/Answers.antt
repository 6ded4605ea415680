use Rattle.std.proofs.Common.{◌∙◌}
use Rattle.record_parts.proofs.Naming.{turn_fits}
use Rattle.record_parts.proofs.turns.turn_on.Goals as goal

pub returns-clause-fit : goal.returns-clause-fit
returns-clause-fit c =
    turn_fits _ _ _ _ (c.in_ok-label-2.ensures ∙ c.as_slice.ensures.value) (c.in_ok-label.ensures.spelled c.requires.shaped) c.in_ok-paths.ensures c.requires.some c.all_fit.ensures
