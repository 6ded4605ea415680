use Rattle.std.proofs.Common.{◌≡◌, None}
use Rattle.proc_expand.specs.Words.{first}
use Rattle.proc_expand.specs.Refusals.{misplaced}
use Rattle.proc_expand.proofs.calls.first_misplaced.Given as goal

abbrev pub invariant-loop-place : goal.invariant-loop-place
invariant-loop-place l = first l.place (misplaced l.signs) ≡ None
