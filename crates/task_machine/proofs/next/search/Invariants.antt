use Rattle.task_machine.specs.Machines.{candidates, is_to_move}
use Rattle.task_machine.specs.steps.Searching.{Tested}
use Rattle.task_machine.proofs.next.search.Given as goal

abbrev pub invariant-objects : goal.invariant-objects
invariant-objects l = Tested (is_to_move l.phase l.execution l.due) (candidates l.phase l.execution) l.place
