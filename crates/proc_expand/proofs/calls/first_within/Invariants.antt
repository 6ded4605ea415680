use Rattle.std.proofs.Common.{◌≡◌, ℕ, None, ◌&&◌, nat_lt, length}
use Rattle.proc_expand.specs.Words.{first, some, end_place}
use Rattle.proc_expand.specs.Refusals.{within, is_call, call_end}
use Rattle.proc_expand.proofs.calls.first_within.Given as goal

abbrev pub invariant-loop-place : goal.invariant-loop-place
invariant-loop-place l = record {
  none_yet : first l.place (within l.signs) ≡ None;
  reached : (j : ℕ) → some l.place (λ c. is_call l.signs c && nat_lt j (end_place (length l.signs) (call_end l.signs c))) ≡ nat_lt j l.reach;
}
