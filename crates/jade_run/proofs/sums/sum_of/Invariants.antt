use Rattle.std.proofs.Common.{◌≡◌, ◌*◌, ◌^◌, take, pos, neg_ℤ, ◌≤ℤ◌}
use Rattle.jade_run.specs.Sums.{sum_of}
use Rattle.jade_run.proofs.sums.sum_of.Given as goal

abbrev pub invariant-loop-cell : goal.invariant-loop-cell
invariant-loop-cell l =
    (l.sum ≡ sum_of (take l.cell-index l.cells)) × (neg_ℤ (pos (2 ^ 63 * l.cell-index)) ≤ℤ l.sum) × (l.sum ≤ℤ pos (2 ^ 63 * l.cell-index))
