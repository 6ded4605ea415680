use Rattle.std.proofs.Common.{◌≤◌, ◌-◌, length, map}
use Rattle.task_roll.specs.Order.{rank}
use Rattle.waiting_line.proofs.line.place_for.Given as goal

abbrev pub invariant-halves : goal.invariant-halves
invariant-halves g l =
    (l.low ≤ rank l.path (map g.T.OnPath.task l.rows.items)) × (rank l.path (map g.T.OnPath.task l.rows.items) ≤ l.high) ×
    (l.high ≤ length l.rows.items)

abbrev pub decreases-halves : goal.decreases-halves
decreases-halves g l = l.high - l.low
