use Rattle.std.proofs.Common.{◌≡◌, map, take}
use Rattle.object_table.specs.steps.Endings.{turns_at}
use Rattle.object_table.proofs.finish.turns_of.Given as goal

abbrev pub invariant-loop-slot : goal.invariant-loop-slot
invariant-loop-slot l = l.lists ≡ map turns_at (take l.slot-index l.slots)
