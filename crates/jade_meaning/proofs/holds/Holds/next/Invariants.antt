use Rattle.std.proofs.Common.{◌≡◌, map}
use Rattle.jade_meaning.specs.Specification.{numbers}
use Rattle.jade_meaning.specs.steps.Holding.{kept_on}
use Rattle.jade_meaning.proofs.holds.Holds.next.Given as goal

abbrev pub invariant-loop-object : goal.invariant-loop-object
invariant-loop-object l = l.modes.items ≡ map (λ o. kept_on l.kind l.old l.new l.self o) (numbers 0 l.object)
