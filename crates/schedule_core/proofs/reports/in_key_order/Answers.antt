use Rattle.std.proofs.Common.{rules}
use Rattle.std.proofs.lemmas.List.Sorted.{answers_always}
use Rattle.schedule_core.specs.steps.Ascending.{stands_before}
use Rattle.schedule_core.proofs.Sorting.{by_key_orders, sorted_is}
use Rattle.schedule_core.proofs.reports.in_key_order.Goals as goal

pub returns-in-Ok : goal.returns-in-Ok
returns-in-Ok c =
    let compares = answers_always _ _ _ (λ f a r next called. search rules) in
    sorted_is _ _ (c.in-Ok.ensures.sorted stands_before by_key_orders compares) (c.sort_by.ensures.stable stands_before by_key_orders compares)
