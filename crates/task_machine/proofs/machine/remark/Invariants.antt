use Rattle.std.proofs.Common.{◌≡◌, length}
use Rattle.task_machine.specs.steps.Standing.{marks_anew}
use Rattle.task_machine.proofs.machine.remark.Given as goal

abbrev pub invariant-rows : goal.invariant-rows
invariant-rows l = record {
  marks : l.due.items ≡ marks_anew l.execution l.place l.execution.rows l.fn.due.items;
  long : length l.due.items ≡ length l.execution.rows;
}
