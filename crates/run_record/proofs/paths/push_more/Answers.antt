use Rattle.std.proofs.Common.{arith}
use Rattle.std.specs.Fmt.{decimal}
use Rattle.std.proofs.lemmas.Option.{slice_get-get_or}
use Rattle.run_record.proofs.Adding.{piece_more}
use Rattle.run_record.proofs.paths.push_more.Goals as goal

pub loop-i-preserved : goal.loop-i-preserved
loop-i-preserved c =
    piece_more 46 decimal _ _ _ _ _ _ _ (slice_get-get_or _ c.loop-i.i 0 (omega arith)) c.loop-i.invariant c.in_ok-push.ensures.items c.in_ok-push_number.ensures
