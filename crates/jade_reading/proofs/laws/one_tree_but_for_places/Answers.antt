use Rattle.jade_reading.proofs.OneTree.{spelled_same}
use Rattle.jade_reading.proofs.laws.one_tree_but_for_places.Goals as goal

pub returns : goal.returns
returns c = spelled_same
