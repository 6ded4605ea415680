use Rattle.std.proofs.Common.{◌≡◌}
use Rattle.proc_expand.proofs.Repeated.{twice_before}
use Rattle.proc_expand.proofs.twice.first_twice.Given as goal

abbrev pub invariant-loop-place : goal.invariant-loop-place
invariant-loop-place l = l.found ≡ twice_before l.tokens.lexemes l.place
