use Rattle.jade_meaning.proofs.Ranging.{Passed}
use Rattle.jade_meaning.proofs.resolve.range_of.Given as goal

abbrev pub invariant-loop-i : goal.invariant-loop-i
invariant-loop-i l = Passed l.name l.items l.first l.i
