use Rattle.jade_meaning.specs.Turns.{in_order}
use Rattle.jade_run.specs.steps.Homes.{home_of}
use Rattle.jade_run.proofs.Calls.{answered_in}
use Rattle.jade_run.proofs.Running.{program_ready, answered_ready}
use Rattle.jade_run.proofs.run.serial_text.Goals as goal

pub returns-in-Program : goal.returns-in-Program
returns-in-Program c =
    let ready = program_ready c.args.text.now c.args.numbers.now c.in_ok-ready.ready c.in-Program.checked c.in-Program.home c.in-Program.is c.in_ok-ready.ensures in
    answered_in c.args.text.now c.args.numbers.now c.args.limit in_order c.in-Program.checked.program (home_of c.in-Program.home) c.run_serially.result ready.0 ready.1 c.run_serially.ensures

pub returns-in-Answered : goal.returns-in-Answered
returns-in-Answered c =
    (answered_ready c.args.text.now c.args.numbers.now c.in_ok-ready.ready c.in-Answered.answer c.in-Answered.is c.in_ok-ready.ensures).answered c.args.limit in_order
