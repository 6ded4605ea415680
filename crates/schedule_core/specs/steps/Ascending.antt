-- Notes by ascending key.
use Rattle.std.specs.Prelude.{◌≡◌, Bool, false, List, [], ◌∷◌}
use Rattle.jade_base.specs.Places.{is_before}
use Rattle.task_roll.specs.declared.note.PartNote.{PartNote}
use Rattle.task_roll.specs.Rolls.{note_key}

-- a note has a lesser key than another
abbrev pub stands_before : PartNote → PartNote → Bool
stands_before n m = is_before (note_key n) (note_key m)

-- none of these notes stands before a note
abbrev pub NoneBefore : PartNote → List PartNote → Type 0
NoneBefore n [] = Unit {0}
NoneBefore n (m ∷ ms) = (stands_before m n ≡ false) × NoneBefore n ms

-- no note stands before an earlier one
abbrev pub Ascend : List PartNote → Type 0
Ascend [] = Unit {0}
Ascend (n ∷ ns) = NoneBefore n ns × Ascend ns
