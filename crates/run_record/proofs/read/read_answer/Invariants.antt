use Rattle.std.proofs.Common.{length, ◌-◌}
use Rattle.run_record.proofs.Passing.{AnswerSoFar}
use Rattle.run_record.proofs.read.read_answer.Given as goal

abbrev pub invariant-lines : goal.invariant-lines
invariant-lines l = AnswerSoFar l.count l.fn.rest.number l.fn.rest.bytes.now l.lines l.left.number l.left.bytes.now

abbrev pub decreases-lines : goal.decreases-lines
decreases-lines l = l.count - length l.lines
