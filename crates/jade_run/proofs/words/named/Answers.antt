use Rattle.std.proofs.Common.{refl}
use Rattle.jade_run.proofs.Naming.{not_run, not_record, not_serial, not_drill}
use Rattle.jade_run.proofs.words.named.Goals as goal

pub returns-in-Err : goal.returns-in-Err
returns-in-Err c = not_run c.args.name.now c.args.rest.now c.in-Err.error (c.if-is_text.ensures.0 refl) c.in-Err.ensures

pub returns-in-Err-run_of : goal.returns-in-Err-run_of
returns-in-Err-run_of c = not_record c.args.name.now c.args.rest.now c.in-Err-run_of.error (c.if-is_text-2.ensures.0 refl) c.in-Err-run_of.ensures

pub returns-in-Err-execution_of : goal.returns-in-Err-execution_of
returns-in-Err-execution_of c =
    not_serial c.args.name.now c.args.rest.now c.in-Err-execution_of.error (c.if-is_text-3.ensures.0 refl) c.in-Err-execution_of.ensures

pub returns-in-None : goal.returns-in-None
returns-in-None c = not_drill c.args.name.now c.args.rest.now (c.if-is_text-4.ensures.0 refl) c.in-None.ensures
