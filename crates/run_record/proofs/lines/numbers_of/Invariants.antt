use Rattle.std.proofs.Common.{length, ◌≤◌}
use Rattle.std.specs.Fmt.{signed_decimal}
use Rattle.run_record.proofs.Spellings.{Read}
use Rattle.run_record.proofs.PathLemmas.{IsNumber}
use Rattle.run_record.proofs.lines.numbers_of.Given as goal

abbrev pub invariant-pieces : goal.invariant-pieces
invariant-pieces l = Read 32 signed_decimal IsNumber l.initial.left l.numbers l.left × (length l.numbers ≤ 64)

abbrev pub decreases-pieces : goal.decreases-pieces
decreases-pieces l = length l.left
