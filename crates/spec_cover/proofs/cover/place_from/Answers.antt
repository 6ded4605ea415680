use Rattle.std.proofs.Common.{◌+◌, ◌-◌, ◌/◌}
use Rattle.spec_cover.proofs.Places.{enough-past}
use Rattle.spec_cover.proofs.cover.place_from.Goals as goal

pub halves-preserved-then-found-object : goal.halves-preserved-then-found-object
halves-preserved-then-found-object c =
    let m = c.halves.low + (c.halves.high - c.halves.low) / 2 in
    record {
      enough = enough-past c.args.parent.now.entries m c.args.object.0 c.entry.result c.len-high.ensures.ascending c.entry.ensures c.if-found-object.true;
      within = c.halves.invariant.within;
    }
