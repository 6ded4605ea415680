-- The steps of the first parts of a list.
use Rattle.std.proofs.Common.{◌≡◌, ℕ, ◌+◌, List, take, ap, ◌∙◌}
use Rattle.std.specs.Prelude.{slice_get, Some}
use Rattle.std.proofs.lemmas.List.Sums.{sum_by_more}
use Rattle.std.proofs.lemmas.Option.{get_or_from_slice_get, slice_get_within}
use Rattle.jade_base.specs.declared.report.PartStep.{PartStep}
use Rattle.fault_order.specs.Order.{steps_in}

-- one more part adds its steps
pub steps_in-more : (parts : List PartStep) (i : ℕ) (part : PartStep) → slice_get parts i ≡ Some part → steps_in (take (i + 1) parts) ≡ steps_in
    (take i parts) + part.steps
steps_in-more parts i part h =
    sum_by_more (λ p. p.steps) parts i part (slice_get_within parts i part h) ∙ ap (λ (p : PartStep). steps_in (take i parts) + p.steps)
    (get_or_from_slice_get parts i part part h)
