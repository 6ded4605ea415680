use Rattle.std.proofs.Common.{◌∙◌}
use Rattle.object_shelf.proofs.Order.{place-paths}
use Rattle.object_shelf.proofs.queue.entry_place.Goals as goal

pub returns : goal.returns
returns c = c.place_of.ensures ∙ place-paths c.args.path.now c.args.rows.now.items
