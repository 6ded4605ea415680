use Rattle.std.proofs.Common.{◌≡◌, ◌++◌, map}
use Rattle.std.specs.List.{flat_map}
use Rattle.jade_meaning.specs.Specification.{rights_on, numbers}
use Rattle.jade_meaning.specs.Talk.{Task, held}
use Rattle.jade_meaning.specs.steps.Holding.{event_of, listed}
use Rattle.jade_meaning.proofs.holds.tell.Given as goal

abbrev pub invariant-loop-object : goal.invariant-loop-object
invariant-loop-object l = (t : Task) → map (event_of t) l.events.items ≡ map (event_of t) l.initial.events.items
    ++ flat_map (λ o. listed l.kind (rights_on l.old o) (rights_on l.new o) (held l.holds o) o) (numbers 0 l.object)
