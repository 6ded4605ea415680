use Rattle.std.proofs.Common.{◌≡◌, ◌*◌, ◌^◌, take, length, pos, neg_ℤ, ◌≤ℤ◌}
use Rattle.std.specs.List.{sum_by}
use Rattle.jade_run.specs.Sums.{sum_of_cells}
use Rattle.jade_run.proofs.sums.total.Given as goal

abbrev pub invariant-loop-place : goal.invariant-loop-place
invariant-loop-place l =
    (l.total ≡ sum_of_cells (take l.place l.objects)) × (neg_ℤ (pos (2 ^ 63 * sum_by length (take l.place l.objects))) ≤ℤ l.total)
    × (l.total ≤ℤ pos (2 ^ 63 * sum_by length (take l.place l.objects)))
