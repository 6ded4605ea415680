use Rattle.std.proofs.Common.{◌≡◌, map, take}
use Rattle.schedule_core.proofs.notes.turns_of.Given as goal

abbrev pub invariant-loop-shelf : goal.invariant-loop-shelf
invariant-loop-shelf l = l.lists ≡ map (λ s. s.turns) (take l.shelf-index l.shelves)
