use Rattle.std.proofs.Common.{length}
use Rattle.run_record.specs.Pieces.{path_text, IsPath}
use Rattle.run_record.proofs.Spellings.{Read}
use Rattle.run_record.proofs.paths.paths_of.Given as goal

abbrev pub invariant-pieces : goal.invariant-pieces
invariant-pieces l = Read 32 path_text IsPath l.fn.text l.paths l.left

abbrev pub decreases-pieces : goal.decreases-pieces
decreases-pieces l = length l.left
