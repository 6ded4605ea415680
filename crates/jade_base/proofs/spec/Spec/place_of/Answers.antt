use Rattle.jade_base.proofs.Entries.{found_at}
use Rattle.jade_base.proofs.spec.Spec.place_of.Goals as goal

pub returns-clause-place : goal.returns-clause-place
returns-clause-place c =
    rw (← c.self.view_is) (found_at c.self.inside.entries.items c.args.object c.found_place.result c.self.invariant.0 c.found_place.ensures)
