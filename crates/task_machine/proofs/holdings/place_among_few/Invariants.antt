use Rattle.std.proofs.Common.{◌≡◌, drop}
use Rattle.task_machine.specs.steps.Holding.{row_from}
use Rattle.task_machine.proofs.holdings.place_among_few.Given as goal

abbrev pub invariant-few : goal.invariant-few
invariant-few l = row_from l.object 0 l.rows ≡ row_from l.object l.place (drop l.place l.rows)
