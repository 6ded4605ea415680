use Rattle.task_code.proofs.Keeping.{NoneIn}
use Rattle.task_code.proofs.valid.first_bad.Given as goal

abbrev pub invariant-bodies : goal.invariant-bodies
invariant-bodies l = NoneIn l.raw l.own
