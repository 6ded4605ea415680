-- Families: notes of parts of tasks with one parent.
use Rattle.std.specs.Prelude.{ℕ, ◌-◌, nat_lt, List, [], ◌∷◌, ◌++◌, length, take, Option, Some, None, is_some, if◌then◌else◌}
use Rattle.task_roll.specs.declared.note.PartNote.{PartNote}
use Rattle.part_notes.specs.declared.family.Line.{Line}

-- the path of a task's parent; that of the root has no number
abbrev pub parent : List ℕ → List ℕ
parent p = take (length p - 1) p

-- the note that a line of a family stands for, the tasks of which have this parent
abbrev pub line_note : List ℕ → Line → PartNote
line_note q l = record { path = q ++ l.number ∷ []; children = l.children; steps = l.steps; blame = None }

-- what is left of so many steps after these parts; nothing where one of them ended with a fault, and where they have more
abbrev pub left_after : ℕ → List PartNote → Option ℕ
left_after left [] = Some left
left_after left (n ∷ ns) = if is_some n.blame then None else if nat_lt left n.steps then None else left_after (left - n.steps) ns
