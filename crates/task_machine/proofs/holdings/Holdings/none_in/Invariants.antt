use Rattle.std.proofs.Common.{◌≡◌, map, take}
use Rattle.task_machine.specs.Executions.{without_content}
use Rattle.task_machine.proofs.holdings.Holdings.none_in.Given as goal

abbrev pub invariant-rows : goal.invariant-rows
invariant-rows l = l.rows.items ≡ map without_content (take l.place l.spec.entries)
