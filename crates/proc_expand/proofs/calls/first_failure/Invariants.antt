use Rattle.std.proofs.Common.{◌≡◌, ◌&&◌, length, suc}
use Rattle.proc_expand.specs.Words.{first, some}
use Rattle.proc_expand.specs.Refusals.{is_call, call_fails}
use Rattle.proc_expand.proofs.calls.first_failure.Given as goal

abbrev pub invariant-loop-place : goal.invariant-loop-place
invariant-loop-place l = l.found ≡ first (suc (length l.signs)) (λ k. some l.place (λ c. is_call l.signs c && call_fails l.signs c k))
