use Rattle.std.proofs.Common.{◌≡◌, ◌≤◌, length, take}
use Rattle.jade_meaning.specs.Course.{value_of}
use Rattle.jade_meaning.specs.steps.Scopes.{in_scope}
use Rattle.jade_meaning.proofs.scope.Scope.value_of.Given as goal

abbrev pub invariant-loop-left : goal.invariant-loop-left
invariant-loop-left l = record {
  same : value_of l.name l.self ≡ value_of l.name (in_scope (take l.left l.self-inside.bounds.items));
  within : l.left ≤ length l.self-inside.bounds.items;
}

abbrev pub decreases-loop-left : goal.decreases-loop-left
decreases-loop-left l = l.left
