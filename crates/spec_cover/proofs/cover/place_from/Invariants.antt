use Rattle.std.proofs.Common.{◌-◌, ◌≤◌, length}
use Rattle.spec_cover.specs.Cover.{IsEnoughFrom}
use Rattle.spec_cover.proofs.cover.place_from.Given as goal

abbrev pub invariant-halves : goal.invariant-halves
invariant-halves l = record {
  enough : IsEnoughFrom l.parent.entries l.low l.object.0;
  within : l.high ≤ length l.parent.entries;
}

abbrev pub decreases-halves : goal.decreases-halves
decreases-halves l = l.high - l.low
