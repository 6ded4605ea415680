use Rattle.std.proofs.Common.{◌∙◌}
use Rattle.schedule_core.proofs.Seated.{place-seats}
use Rattle.schedule_core.proofs.schedule.seat_place.Goals as goal

pub returns : goal.returns
returns c = c.place_of.ensures ∙ place-seats c.args.path.now c.args.roll.now.items
