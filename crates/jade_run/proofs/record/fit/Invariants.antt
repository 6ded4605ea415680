use Rattle.std.proofs.Common.{All, take}
use Rattle.run_record.proofs.PathLemmas.{IsNumber}
use Rattle.jade_run.proofs.record.fit.Given as goal

abbrev pub invariant-loop-i : goal.invariant-loop-i
invariant-loop-i l = All IsNumber (take l.i l.numbers)
