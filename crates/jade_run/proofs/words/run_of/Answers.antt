use Rattle.jade_run.proofs.Naming.{no_run}
use Rattle.jade_run.proofs.words.run_of.Goals as goal

pub returns-in-Err : goal.returns-in-Err
returns-in-Err c = no_run c.args.words.now c.in-Some.workers.now c.in-Some.rest.now c.in-Err.error c.in-Some.ensures.cases.0 c.in-Err.ensures
