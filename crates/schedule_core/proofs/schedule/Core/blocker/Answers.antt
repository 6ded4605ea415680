use Rattle.std.proofs.Common.{rules}
use Rattle.schedule_core.proofs.Dues.{match_map}
use Rattle.schedule_core.proofs.schedule.Core.blocker.Goals as goal

pub returns : goal.returns
returns c =
    match_map c.kept_by.result _ _ _ _ c.kept_by.ensures
    (λ f. f c.args.self.now (search (rules, c.self.view_is)) (search (rules, c.as_slice.ensures.value, c.self.view_is)))
    (λ e f. f c.args.self.now (search (rules, c.self.view_is)) (search (rules, c.as_slice.ensures.value, c.self.view_is)))
