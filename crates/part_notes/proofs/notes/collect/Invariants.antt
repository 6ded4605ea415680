use Rattle.std.proofs.Common.{◌≡◌, ◌++◌, length}
use Rattle.part_notes.specs.Notes.{flat}
use Rattle.part_notes.proofs.notes.collect.Given as goal

abbrev pub invariant-chunks : goal.invariant-chunks
invariant-chunks l = record {
  moved : l.notes.items ++ flat l.rest ≡ flat l.initial.rest;
}

abbrev pub decreases-chunks : goal.decreases-chunks
decreases-chunks l = length l.rest
