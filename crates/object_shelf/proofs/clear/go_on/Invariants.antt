use Rattle.std.proofs.Common.{◌≤◌}
use Rattle.object_shelf.specs.Clear.{clear_for}
use Rattle.object_shelf.proofs.clear.go_on.Given as goal

abbrev pub invariant-loop-place : goal.invariant-loop-place
invariant-loop-place l = l.from ≤ clear_for l.mode l.rows.items → l.place ≤ clear_for l.mode l.rows.items
