use Rattle.replaced_trees.proofs.MovedReading.{reading_moves}
use Rattle.replaced_trees.proofs.MovedStatements.{program_seen}
use Rattle.replaced_trees.proofs.laws.read_at_other_places.Goals as goal

pub returns-clause-reading : goal.returns-clause-reading
returns-clause-reading c = reading_moves

pub returns-clause-image : goal.returns-clause-image
returns-clause-image c = program_seen
