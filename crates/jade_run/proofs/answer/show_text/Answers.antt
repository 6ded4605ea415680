use Rattle.std.proofs.Common.{refl}
use Rattle.jade_run.specs.Answered.{shown}
use Rattle.jade_run.specs.steps.Homes.{home_of}
use Rattle.jade_run.proofs.Calls.{refused_shown}
use Rattle.jade_run.proofs.answer.show_text.Goals as goal

pub returns-in-Err : goal.returns-in-Err
returns-in-Err c = refused_shown c.args.text.now c.in-Err.error c.not_read.result c.not_read.ensures c.in-Err.ensures.refused

pub returns : goal.returns
returns c = shown c.in-Ok.read.0 (home_of c.in-Ok.read.1) c.in-Ok.ensures.read c.in_ok-print_program.ensures refl
