use Rattle.std.proofs.Common.{◌≡◌, ◌≤◌, vec_len}
use Rattle.picture_base.proofs.objects.labels.Given as goal

abbrev pub invariant-loop-number : goal.invariant-loop-number
invariant-loop-number l = (vec_len l.labels ≡ l.number) × (l.number ≤ l.number-end)
