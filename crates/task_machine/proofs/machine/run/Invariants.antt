use Rattle.task_machine.specs.Executions.{work_left}
use Rattle.task_machine.specs.steps.Standing.{Comes}
use Rattle.task_machine.proofs.machine.run.Given as goal

abbrev pub invariant-run : goal.invariant-run
invariant-run l = Comes l.fn.execution l.execution

abbrev pub decreases-run : goal.decreases-run
decreases-run l = work_left l.execution.stage
