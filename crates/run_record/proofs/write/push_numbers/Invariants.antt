use Rattle.std.proofs.Common.{◌≡◌, ◌++◌, take, map}
use Rattle.std.specs.Fmt.{signed_decimal}
use Rattle.run_record.specs.Pieces.{each_after}
use Rattle.run_record.proofs.write.push_numbers.Given as goal

abbrev pub invariant-loop-i : goal.invariant-loop-i
invariant-loop-i l = l.text.items ≡ l.fn.text.items ++ each_after 32 (map signed_decimal (take l.i l.numbers))
