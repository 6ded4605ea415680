use Rattle.std.proofs.Common.{◌≡◌, ◌++◌, take, map}
use Rattle.std.specs.Fmt.{decimal}
use Rattle.run_record.specs.Pieces.{each_after}
use Rattle.run_record.proofs.paths.push_more.Given as goal

abbrev pub invariant-loop-i : goal.invariant-loop-i
invariant-loop-i l = l.text.items ≡ l.fn.text.items ++ each_after 46 (map decimal (take l.i l.numbers))
