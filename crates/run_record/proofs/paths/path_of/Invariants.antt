use Rattle.std.proofs.Common.{length}
use Rattle.run_record.proofs.PathLemmas.{PathRead}
use Rattle.run_record.proofs.paths.path_of.Given as goal

abbrev pub invariant-pieces : goal.invariant-pieces
invariant-pieces l = PathRead l.initial.left l.numbers.items l.left

abbrev pub decreases-pieces : goal.decreases-pieces
decreases-pieces l = length l.left
