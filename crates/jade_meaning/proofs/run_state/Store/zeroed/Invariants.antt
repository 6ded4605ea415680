use Rattle.std.proofs.Common.{◌≡◌, ◌++◌, map, drop}
use Rattle.jade_syntax.specs.Objects.{sizes}
use Rattle.jade_meaning.specs.Serial.{zeros}
use Rattle.jade_meaning.proofs.run_state.Store.zeroed.Given as goal

abbrev pub invariant-loop-i : goal.invariant-loop-i
invariant-loop-i l = map (λ v. v.items) l.objects.items ++ zeros (sizes (drop l.i l.items)) ≡ zeros (sizes l.items)
