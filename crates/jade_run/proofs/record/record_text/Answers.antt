use Rattle.jade_run.specs.steps.Homes.{home_of}
use Rattle.jade_run.proofs.Keeping.{program_kept, settled_kept}
use Rattle.jade_run.proofs.Running.{answered_ready, program_ready}
use Rattle.jade_run.proofs.record.record_text.Goals as goal

pub returns-in-Program : goal.returns-in-Program
returns-in-Program g c =
    let ready = program_ready c.args.text.now c.args.numbers.now c.in_ok-ready.ready c.in-Program.checked c.in-Program.home c.in-Program.is c.in_ok-ready.ensures in
    program_kept c.args.text.now c.args.numbers.now c.args.limit c.in-Program.checked.program (home_of c.in-Program.home) c.record_by_workers.result _ _ ready.0 ready.1
    c.record_by_workers.ensures

pub returns-in-Answered : goal.returns-in-Answered
returns-in-Answered g c =
    settled_kept c.args.text.now c.args.numbers.now c.args.limit _ _ _
    (answered_ready c.args.text.now c.args.numbers.now c.in_ok-ready.ready c.in-Answered.answer c.in-Answered.is c.in_ok-ready.ensures)
