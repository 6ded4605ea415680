use Rattle.std.proofs.Common.{arith}
use Rattle.std.specs.Fmt.{decimal}
use Rattle.std.proofs.lemmas.Option.{slice_get-get_or}
use Rattle.jade_run.proofs.Joins.{text_more}
use Rattle.jade_run.proofs.texts.push_path.Goals as goal

pub loop-i-preserved : goal.loop-i-preserved
loop-i-preserved c =
    text_more 46 decimal _ _ _ _ _ _ _ (slice_get-get_or _ c.loop-i.i 0 (omega arith)) c.loop-i.invariant c.in_ok-push_between.ensures
    c.in_ok-push_decimal.ensures
