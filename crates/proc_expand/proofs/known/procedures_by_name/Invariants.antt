use Rattle.proc_expand.specs.steps.Looking.{Knows}
use Rattle.proc_expand.proofs.known.procedures_by_name.Given as goal

abbrev pub invariant-loop-place : goal.invariant-loop-place
invariant-loop-place l = Knows l.tokens.lexemes l.place l.known
