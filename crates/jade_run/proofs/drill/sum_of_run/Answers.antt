use Rattle.jade_syntax.specs.Image.{program}
use Rattle.jade_meaning.specs.Turns.{turns_in}
use Rattle.jade_run.proofs.Running.{faults_ascend}
use Rattle.jade_run.proofs.drill.sum_of_run.Goals as goal

pub answer_of-requires : goal.answer_of-requires
answer_of-requires c =
    let plan = c.args.ran.plan in
    let turns = turns_in c.args.ran.report.turns in
    faults_ascend c.in_ok-report.report (program plan.program) plan.numbers plan.limit turns c.in_ok-report.ensures.meaning
    (c.report_ascends.ensures (program plan.program) plan.numbers plan.limit turns).faults
