use Rattle.std.proofs.Common.{subst, sym, MatchOption}
use Rattle.jade_base.specs.Specification.{IsAt, IsMissing}
use Rattle.jade_base.proofs.Entries.{found_by_halves}
use Rattle.jade_base.proofs.spec.found_place.Goals as goal

pub returns : goal.returns
returns c =
    let xs = c.args.entries.now.items in
    subst (λ r. MatchOption r (IsMissing xs c.args.object) (IsAt xs c.args.object)) (sym c.ok.ensures.value)
    (found_by_halves xs c.args.object c.place_of.result c.requires c.place_of.ensures)
