use Rattle.std.proofs.Common.{◌≡◌, ℕ, List, drop, map}
use Rattle.part_notes.specs.Families.{left_after, line_note}
use Rattle.part_notes.proofs.family.left_in.Given as goal

abbrev pub invariant-loop-line : goal.invariant-loop-line
invariant-loop-line l = (q : List ℕ) → left_after l.left (map (line_note q) (drop l.line-index l.lines)) ≡ left_after l.initial.left (map (line_note q) l.lines)
