use Rattle.std.proofs.Common.{◌≡◌, ◌++◌, take, map}
use Rattle.run_record.specs.Recording.{ended, turns_line}
use Rattle.run_record.proofs.write.push_turns.Given as goal

abbrev pub invariant-loop-i : goal.invariant-loop-i
invariant-loop-i l = l.text.items ≡ l.fn.text.items ++ ended (map turns_line (take l.i l.turns))
