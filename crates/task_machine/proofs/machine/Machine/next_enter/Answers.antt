use Rattle.std.proofs.Common.{ap}
use Rattle.task_machine.specs.Asks.{Asking}
use Rattle.task_machine.proofs.Entering.{enters_first, enters_none}
use Rattle.task_machine.proofs.machine.Machine.next_enter.Goals as goal

pub returns-clause-enters : goal.returns-clause-enters
returns-clause-enters c =
    enters_first c.args.self.now.at.execution c.self.inside.execution c.child_spec.result.now c.objects.result c.args.from.0
    (ap (λ (a : Asking). a.at.execution) c.self.view_is) c.objects.ensures c.next_entry.result c.child_spec.ensures c.next_entry.ensures.found

pub returns-clause-none : goal.returns-clause-none
returns-clause-none c =
    enters_none c.args.self.now.at.execution c.self.inside.execution c.child_spec.result.now c.objects.result c.args.from.0
    (ap (λ (a : Asking). a.at.execution) c.self.view_is) c.objects.ensures c.next_entry.result c.child_spec.ensures c.next_entry.ensures.none
