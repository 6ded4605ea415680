use Rattle.task_machine.specs.steps.Owning.{RightsBelow}
use Rattle.task_machine.proofs.section.all_rights.Given as goal

abbrev pub invariant-objects : goal.invariant-objects
invariant-objects l = RightsBelow l.object l.spec.entries
