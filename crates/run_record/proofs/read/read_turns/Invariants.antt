use Rattle.std.proofs.Common.{length}
use Rattle.run_record.proofs.Passing.{TurnsSoFar}
use Rattle.run_record.proofs.read.read_turns.Given as goal

abbrev pub invariant-lines : goal.invariant-lines
invariant-lines l = TurnsSoFar l.fn.rest.number l.fn.rest.bytes.now l.turns l.left.number l.left.bytes.now

abbrev pub decreases-lines : goal.decreases-lines
decreases-lines l = length l.left.bytes.now
