use Rattle.std.proofs.Common.{◌≡◌}
use Rattle.jade_types.proofs.Scoping.{begun}
use Rattle.jade_types.proofs.numbers.body.Body.created.Given as goal

abbrev pub invariant-loop-i : goal.invariant-loop-i
invariant-loop-i l = l.body ≡ begun l.self l.names l.i
