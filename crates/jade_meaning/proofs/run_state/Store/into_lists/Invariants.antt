use Rattle.std.proofs.Common.{◌≡◌, map}
use Rattle.jade_meaning.proofs.run_state.Store.into_lists.Given as goal

abbrev pub invariant-loop-cells : goal.invariant-loop-cells
invariant-loop-cells l = l.lists ≡ map (λ v. v.items) l.yielded
