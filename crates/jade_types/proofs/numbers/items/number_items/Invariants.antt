use Rattle.std.proofs.Common.{drop}
use Rattle.jade_types.proofs.ItemNumbers.{Counting}
use Rattle.jade_types.proofs.numbers.items.number_items.Given as goal

abbrev pub invariant-loop-i : goal.invariant-loop-i
invariant-loop-i l = Counting l.items l.initial.stands l.stands l.names l.counts (drop l.i l.items)
