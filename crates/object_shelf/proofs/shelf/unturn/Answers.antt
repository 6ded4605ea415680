use Rattle.object_shelf.proofs.Turns.{popped}
use Rattle.object_shelf.proofs.shelf.unturn.Goals as goal

pub returns-in-Commuting : goal.returns-in-Commuting
returns-in-Commuting c = popped c.pop.result c.args.mode c.args.turns.now c.pop.new.self c.in-Commuting.is c.pop.ensures
