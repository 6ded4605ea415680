use Rattle.std.proofs.Common.{◌≡◌, take}
use Rattle.jade_syntax.specs.Objects.{sizes}
use Rattle.object_table.specs.steps.Kept.{start_slots}
use Rattle.object_table.proofs.table.first_objects.Given as goal

abbrev pub invariant-loop-object : goal.invariant-loop-object
invariant-loop-object l = l.slots.items ≡ start_slots (take l.object (sizes l.plan.program.items))
