use Rattle.std.proofs.Common.{◌≡◌, take}
use Rattle.jade_syntax.specs.Objects.{sizes}
use Rattle.task_machine.specs.steps.Holding.{whole_from}
use Rattle.task_machine.proofs.holdings.rows_of.Given as goal

abbrev pub invariant-loop-object : goal.invariant-loop-object
invariant-loop-object l = l.rows.items ≡ whole_from 0 (take l.object (sizes l.checked.program.items))
