use Rattle.std.proofs.Common.{ap, ◌∙◌}
use Rattle.task_machine.specs.Asks.{Asking}
use Rattle.task_machine.proofs.Entering.{if_none, leaves_first, leaves_none}
use Rattle.task_machine.proofs.machine.Machine.next_leave.Goals as goal

pub returns-in_err-object-clause-none : goal.returns-in_err-object-clause-none
returns-in_err-object-clause-none c =
    if_none c.from_residual.result _ (leaves_none c.args.self.now.at.execution c.self.inside.execution c.spec-spec.result.now c.objects.result
    c.args.from.0 (ap (λ (a : Asking). a.at.execution) c.self.view_is) c.objects.ensures (c.spec-spec.ensures ∙ c.spec.ensures)
    c.in_err-object.ensures.none)

pub returns-clause-leaves : goal.returns-clause-leaves
returns-clause-leaves c =
    leaves_first c.args.self.now.at.execution c.self.inside.execution c.spec-spec.result.now c.objects.result c.args.from.0
    (ap (λ (a : Asking). a.at.execution) c.self.view_is) c.objects.ensures c.in_ok-object.object c.in_ok-object.field-0-1
    (c.spec-spec.ensures ∙ c.spec.ensures) c.in_ok-object.ensures.found
