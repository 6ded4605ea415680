use Rattle.jade_reading.proofs.OneTree.{readings_same}
use Rattle.jade_reading.proofs.laws.one_tree.Goals as goal

pub returns : goal.returns
returns c = readings_same
