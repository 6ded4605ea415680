use Rattle.std.proofs.Common.{◌≡◌, ◌++◌, map, replicate}
use Rattle.std.specs.Prelude.{pos}
use Rattle.jade_meaning.proofs.run_state.add_objects.Given as goal

abbrev pub invariant-loop : goal.invariant-loop
invariant-loop l = map (λ v. v.items) l.objects.items ≡ map (λ v. v.items) l.initial.objects.items ++ replicate l.counter (replicate l.size (pos 0))
