use Rattle.task_machine.specs.steps.Finding.{AreSame}
use Rattle.task_machine.proofs.entries.next_amended.Given as goal

abbrev pub invariant-places : goal.invariant-places
invariant-places l = AreSame l.first l.place l.spec
