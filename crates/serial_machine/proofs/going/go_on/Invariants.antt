use Rattle.task_machine.specs.steps.Holding.{contents_of}
use Rattle.task_machine.specs.steps.Running.{work_left}
use Rattle.serial_machine.specs.steps.Pausing.{GoesOn}
use Rattle.serial_machine.proofs.going.go_on.Given as goal

abbrev pub invariant-run : goal.invariant-run
invariant-run l = GoesOn l.code l.fn.own l.fn.frame (contents_of l.fn.held) l.own l.frame (contents_of l.held)

abbrev pub decreases-run : goal.decreases-run
decreases-run l = work_left l.code l.frame
