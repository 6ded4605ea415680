use Rattle.std.proofs.Common.{[], ◌∙◌, sym}
use Rattle.jade_syntax.specs.Image.{program}
use Rattle.jade_meaning.specs.Turns.{in_order}
use Rattle.jade_run.specs.steps.Homes.{home_of}
use Rattle.jade_run.proofs.Plain.{one_answer}
use Rattle.jade_run.proofs.Drilling.{settled_drilled, sum_drilled}
use Rattle.jade_run.proofs.Running.{program_ready, answered_ready}
use Rattle.jade_run.proofs.Witnessing.{drill_saw, settled_drill}
use Rattle.jade_run.proofs.drill.run_drill.Goals as goal

pub returns-in-Program : goal.returns-in-Program
returns-in-Program g c =
    let ready = program_ready c.deref.result.now [] c.in_ok-ready.ready c.in-Program.checked c.in-Program.home c.in-Program.is c.in_ok-ready.ensures in
    drill_saw c.args.tasks c.deref.result.now c.in-Program.checked.program (home_of c.in-Program.home) c.drill_checked.result _ _ (c.deref.ensures.value ∙ c.in_ok-text.ensures.text)
    ready.0 c.drill_checked.ensures
    (sum_drilled c.args.tasks c.deref.result.now c.in-Program.checked.program (home_of c.in-Program.home) c.drill_checked.result (c.deref.ensures.value ∙ c.in_ok-text.ensures.text)
    ready.0 (sym ready.1) (λ good turns.
    one_answer c.without_cm.ensures c.runs_plainly.ensures (program c.in-Program.checked.program) [] 4294967295 turns in_order
    (c.drills_are_plain.ensures c.args.tasks c.requires.amount.1 c.in-Program.checked.program (home_of c.in-Program.home) good)) _ _ c.drill_checked.ensures)

pub returns : goal.returns
returns g c =
    let settled = answered_ready c.deref.result.now [] c.in_ok-ready.ready c.in-Answered.answer c.in-Answered.is c.in_ok-ready.ensures in
    settled_drill c.args.tasks c.deref.result.now c.in-Answered.answer.text.items c.in-Answered.answer.status _ settled
    (settled_drilled c.args.tasks c.deref.result.now c.in-Answered.answer.text.items c.in-Answered.answer.status
    (c.deref.ensures.value ∙ c.in_ok-text.ensures.text) settled)
