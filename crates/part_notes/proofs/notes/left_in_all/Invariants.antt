use Rattle.std.proofs.Common.{◌≡◌}
use Rattle.part_notes.specs.Families.{left_after}
use Rattle.part_notes.specs.Notes.{flat}
use Rattle.part_notes.proofs.notes.left_in_all.Given as goal

abbrev pub invariant-loop-chunk : goal.invariant-loop-chunk
invariant-loop-chunk l =
    (goal.iterator-loop-chunk).can_next l.chunk-iterator × (goal.iterator-loop-chunk).is_finite l.chunk-iterator
    × (left_after l.left (flat l.chunk-iterator) ≡ left_after l.steps (flat l.chunks))
