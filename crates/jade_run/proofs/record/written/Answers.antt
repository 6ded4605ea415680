use Rattle.jade_run.proofs.Keeping.{written_whole, written_long}
use Rattle.jade_run.proofs.record.written.Goals as goal

pub returns-in-Ok : goal.returns-in-Ok
returns-in-Ok c = written_whole c.args.kept.now _ c.in-Ok.ensures

pub returns-in_ok-from_slice-in-Err-Long : goal.returns-in_ok-from_slice-in-Err-Long
returns-in_ok-from_slice-in-Err-Long c =
    written_long c.args.kept.now _ (rw c.in-Err-Long.field-0-is at c.in-Err-Long.ensures) c.in_ok-from_slice-in-Err-Long.ensures.items
