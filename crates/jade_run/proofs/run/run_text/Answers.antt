use Rattle.jade_run.specs.steps.Homes.{home_of}
use Rattle.jade_run.proofs.Running.{program_ready, answered_ready}
use Rattle.jade_run.proofs.Witnessing.{program_saw, settled_text}
use Rattle.jade_run.proofs.run.run_text.Goals as goal

pub returns-in-Program : goal.returns-in-Program
returns-in-Program g c =
    let ready = program_ready c.args.text.now c.args.numbers.now c.in_ok-ready.ready c.in-Program.checked c.in-Program.home c.in-Program.is c.in_ok-ready.ensures in
    program_saw c.args.text.now c.args.numbers.now c.args.limit c.in-Program.checked.program (home_of c.in-Program.home) c.run_by_workers.result _ _ ready.0 ready.1
    c.run_by_workers.ensures

pub returns-in-Answered : goal.returns-in-Answered
returns-in-Answered g c =
    settled_text c.args.text.now c.args.numbers.now c.args.limit _ _ _
    (answered_ready c.args.text.now c.args.numbers.now c.in_ok-ready.ready c.in-Answered.answer c.in-Answered.is c.in_ok-ready.ensures)
