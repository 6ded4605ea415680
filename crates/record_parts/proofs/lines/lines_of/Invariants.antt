use Rattle.std.proofs.Common.{◌≡◌, ◌++◌, All, length}
use Rattle.run_record.specs.Pieces.{Lacks}
use Rattle.run_record.specs.Recording.{ended}
use Rattle.record_parts.proofs.lines.lines_of.Given as goal

abbrev pub invariant-lines : goal.invariant-lines
invariant-lines l = (l.fn.text ≡ ended l.lines ++ l.left) × All (Lacks 10) l.lines

abbrev pub decreases-lines : goal.decreases-lines
decreases-lines l = length l.left
