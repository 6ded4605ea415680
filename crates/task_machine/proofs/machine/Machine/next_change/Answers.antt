use Rattle.std.proofs.Common.{ap, ◌∙◌}
use Rattle.task_machine.specs.Asks.{Asking}
use Rattle.task_machine.proofs.Entering.{shifts_first, shifts_none}
use Rattle.task_machine.proofs.machine.Machine.next_change.Goals as goal

pub returns-clause-shifts : goal.returns-clause-shifts
returns-clause-shifts c =
    shifts_first c.args.self.now.at.execution c.self.inside.execution c.spec-spec.result.now c.objects.result c.args.from.0
    (ap (λ (a : Asking). a.at.execution) c.self.view_is) c.objects.ensures c.next_amended.result (c.spec-spec.ensures ∙ c.spec.ensures)
    c.next_amended.ensures.found

pub returns-clause-none : goal.returns-clause-none
returns-clause-none c =
    shifts_none c.args.self.now.at.execution c.self.inside.execution c.spec-spec.result.now c.objects.result c.args.from.0
    (ap (λ (a : Asking). a.at.execution) c.self.view_is) c.objects.ensures c.next_amended.result (c.spec-spec.ensures ∙ c.spec.ensures)
    c.next_amended.ensures.none
