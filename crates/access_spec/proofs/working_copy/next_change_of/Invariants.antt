use Rattle.std.proofs.Common.{◌≡◌, drop}
use Rattle.access_spec.specs.Copies.{next_changed}
use Rattle.access_spec.proofs.working_copy.next_change_of.Given as goal

abbrev pub invariant-loop-place : goal.invariant-loop-place
invariant-loop-place l =
    next_changed (drop l.place l.spec.entries) (drop l.place l.spec.draft) l.from ≡ next_changed l.spec.entries l.spec.draft l.from
