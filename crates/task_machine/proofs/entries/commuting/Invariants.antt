use Rattle.task_machine.specs.steps.Commuting.{NoneCommutes}
use Rattle.task_machine.proofs.entries.commuting.Given as goal

abbrev pub invariant-entries : goal.invariant-entries
invariant-entries l = NoneCommutes l.objects l.spec.entries l.place
