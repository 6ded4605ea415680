use Rattle.std.proofs.Common.{◌≡◌, map, take}
use Rattle.object_table.specs.steps.Endings.{cells_in}
use Rattle.object_table.proofs.finish.contents_of.Given as goal

abbrev pub invariant-loop-slot : goal.invariant-loop-slot
invariant-loop-slot l = l.lists ≡ map cells_in (take l.slot-index l.slots)
