use Rattle.spec_cover.specs.Cover.{IsEnoughFrom}
use Rattle.spec_cover.proofs.cover.granted_from.Given as goal

abbrev pub invariant-loop-place : goal.invariant-loop-place
invariant-loop-place l = IsEnoughFrom l.parent.entries l.place l.object.0
