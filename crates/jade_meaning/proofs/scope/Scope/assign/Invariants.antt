use Rattle.std.proofs.Common.{◌≡◌, ◌≤◌, length}
use Rattle.jade_meaning.proofs.Scoping.{Passed}
use Rattle.jade_meaning.proofs.scope.Scope.assign.Given as goal

abbrev pub invariant-loop-left : goal.invariant-loop-left
invariant-loop-left l = record {
  passed : Passed l.name l.value l.self-inside.bounds.items l.left;
  within : l.left ≤ length l.self-inside.bounds.items;
  same : l.self-inside.bounds ≡ l.initial.self-inside.bounds;
}

abbrev pub decreases-loop-left : goal.decreases-loop-left
decreases-loop-left l = l.left
