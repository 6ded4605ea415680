use Rattle.std.proofs.Common.{◌∙◌, ap}
use Rattle.task_roll.specs.Order.{fits_at}
use Rattle.task_roll.proofs.Rolls.{own}
use Rattle.task_roll.proofs.roll.child_fits.Goals as goal

pub returns : goal.returns
returns c = c.fits_at.ensures ∙ ap (fits_at c.args.place c.args.child.now) (own c.args.live.now.items)
