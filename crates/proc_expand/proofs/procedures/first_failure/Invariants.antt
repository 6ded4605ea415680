use Rattle.std.proofs.Common.{◌≡◌, ◌&&◌, length, suc}
use Rattle.proc_expand.specs.Words.{first, some}
use Rattle.proc_expand.specs.Refusals.{begins, proc_fails}
use Rattle.proc_expand.proofs.procedures.first_failure.Given as goal

abbrev pub invariant-loop-place : goal.invariant-loop-place
invariant-loop-place l = l.found ≡ first (suc (length l.signs)) (λ k. some l.place (λ p. begins l.signs p && proc_fails l.signs p k))
