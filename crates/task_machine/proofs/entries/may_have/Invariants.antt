use Rattle.task_machine.specs.steps.Commuting.{NoneMisfits}
use Rattle.task_machine.proofs.entries.may_have.Given as goal

abbrev pub invariant-entries : goal.invariant-entries
invariant-entries l = NoneMisfits l.own.0 l.objects l.spec.entries l.place
