use Rattle.std.proofs.Common.{◌≡◌, ◌++◌, take}
use Rattle.run_record.specs.Recording.{ended}
use Rattle.record_parts.proofs.lines.are_lines.Given as goal

abbrev pub invariant-loop-i : goal.invariant-loop-i
invariant-loop-i l = l.text ≡ ended (take l.i l.lines) ++ l.left
