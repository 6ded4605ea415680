use Rattle.jade_meaning.proofs.InOrder.{stops_in_order}
use Rattle.jade_meaning.proofs.laws.stops_in_order.Goals as goal

pub returns : goal.returns
returns c = stops_in_order
