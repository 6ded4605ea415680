use Rattle.std.proofs.Common.{All, take}
use Rattle.run_record.specs.Pieces.{IsPath}
use Rattle.record_parts.proofs.turns.all_fit.Given as goal

abbrev pub invariant-loop-i : goal.invariant-loop-i
invariant-loop-i l = All IsPath (take l.i l.paths)
