use Rattle.std.proofs.Common.{◌≡◌, ◌++◌, take}
use Rattle.run_record.specs.Recording.{ended}
use Rattle.run_record.proofs.write.push_lines.Given as goal

abbrev pub invariant-loop-i : goal.invariant-loop-i
invariant-loop-i l = l.text.items ≡ l.fn.text.items ++ ended (take l.i l.lines)
