use Rattle.std.proofs.Common.{◌≡◌, ◌++◌, take, map}
use Rattle.part_notes.specs.Families.{line_note, parent}
use Rattle.part_notes.proofs.family.Family.put_into.Given as goal

abbrev pub invariant-loop-line : goal.invariant-loop-line
invariant-loop-line l = l.notes.items ≡ l.initial.notes.items ++ map (line_note (parent l.self-inside.like)) (take l.line-index l.self-inside.lines.items)
