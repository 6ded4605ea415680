use Rattle.std.proofs.Common.{◌∙◌, ap}
use Rattle.task_roll.specs.Order.{is_ordered, place_among}
use Rattle.task_roll.proofs.Rolls.{own}
use Rattle.task_roll.proofs.roll.place_in.Goals as goal

pub place_of-requires : goal.place_of-requires
place_of-requires c = ap is_ordered (own c.args.live.now.items) ∙ c.requires

pub returns : goal.returns
returns c = c.place_of.ensures ∙ ap (place_among c.args.path.now) (own c.args.live.now.items)
