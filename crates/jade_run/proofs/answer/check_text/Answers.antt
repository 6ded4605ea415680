use Rattle.jade_run.specs.steps.Homes.{home_of}
use Rattle.jade_run.proofs.Calls.{refused_tested, good_tested}
use Rattle.jade_run.proofs.answer.check_text.Goals as goal

pub returns-in-Err : goal.returns-in-Err
returns-in-Err c = refused_tested c.args.text.now c.in-Err.error c.not_read.result c.not_read.ensures c.in-Err.ensures.refused

pub returns : goal.returns
returns c =
    good_tested c.args.text.now c.in-Ok.good.0.program (home_of c.in-Ok.good.1) c.in_ok-from_slice.field-0.items c.in-Ok.ensures.good
    c.in_ok-from_slice.ensures.items
