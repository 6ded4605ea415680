use Rattle.std.proofs.Common.{◌≡◌, ◌≤◌}
use Rattle.task_machine.specs.steps.Holding.{contents_of}
use Rattle.serial_machine.specs.steps.Levels.{Fits, total}
use Rattle.serial_machine.proofs.stack.run.Given as goal

abbrev pub invariant-run : goal.invariant-run
invariant-run l = record {
  fits : Fits l.code l.numbers l.stack (contents_of l.held);
  same : (total l.code l.numbers l.limit l.fn.stack (contents_of l.fn.held)).comes ≡ (total l.code l.numbers l.limit l.stack (contents_of l.held)).comes;
  within : l.stack.level.frame.left ≤ l.limit;
}

abbrev pub decreases-run : goal.decreases-run
decreases-run l = (total l.code l.numbers l.limit l.stack (contents_of l.held)).pauses
