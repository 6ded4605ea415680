use Rattle.std.specs.Prelude.{map}
use Rattle.proc_expand.specs.Words.{at, bytes_at, is_called, those}
use Rattle.proc_expand.specs.steps.Replaced.{IsTaken}
use Rattle.proc_expand.proofs.taken.taken_of.Given as goal

abbrev pub invariant-loop-place : goal.invariant-loop-place
invariant-loop-place l = IsTaken (map (bytes_at l.tokens.lexemes) (those l.place (λ k. is_called (at l.signs k)))) l.taken
