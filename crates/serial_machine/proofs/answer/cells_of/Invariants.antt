use Rattle.std.proofs.Common.{◌≡◌, ℕ, ◌≤◌}
use Rattle.task_machine.specs.steps.Holding.{contents_of}
use Rattle.serial_machine.specs.steps.Cells.{cells_held}
use Rattle.serial_machine.proofs.answer.cells_of.Given as goal

abbrev pub invariant-objects : goal.invariant-objects
invariant-objects l = record {
  taken : l.lists.items ≡ cells_held l.object (contents_of l.fn.all);
  rest : (o : ℕ) → l.object ≤ o → contents_of l.held o ≡ contents_of l.fn.all o;
  within : l.object ≤ l.fn.objects;
}
