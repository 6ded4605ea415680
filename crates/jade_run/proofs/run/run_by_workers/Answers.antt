use Rattle.std.proofs.Common.{refl}
use Rattle.jade_syntax.specs.Image.{program}
use Rattle.jade_meaning.specs.Report.{report}
use Rattle.jade_meaning.specs.Turns.{turns_in}
use Rattle.jade_run.specs.steps.Homes.{home_of}
use Rattle.jade_run.proofs.Running.{planned, reported, run_is_shown, shows_answer}
use Rattle.jade_run.proofs.run.run_by_workers.Goals as goal

pub returns : goal.returns
returns g c =
    let ran = c.in_ok-ran.ran in
    let plan = ran.plan in
    let turns = turns_in ran.report.turns in
    let told = report (program plan.program) plan.numbers plan.limit turns in (
      turns,
      record {
        shows = shows_answer told (home_of c.args.home.now) c.args.checked c.in_ok-compiled.compiled c.checked.result.now c.args.numbers.now c.args.limit turns _ _
            (reported told plan c.args.checked c.in_ok-compiled.compiled c.args.numbers.now c.args.limit turns refl c.in_ok-ran.ensures c.in_ok-compiled.ensures)
            c.in_ok-compiled.ensures c.checked.ensures (c.report_tells.ensures (program c.args.checked.program) c.args.numbers.now c.args.limit turns)
            c.in_ok-answer.ensures.shows;
        shown = run_is_shown (record { plan = ran.plan; turns = ran.report.turns }) c.args.checked.program c.args.numbers.now c.args.limit _ _ c.see.ensures
            (planned plan c.in_ok-compiled.compiled c.args.checked c.args.numbers.now c.args.limit c.in_ok-ran.ensures c.in_ok-compiled.ensures)
            c.in_ok-answer.ensures.full;
      },
    )
