use Rattle.jade_meaning.specs.Turns.{turns_in}
use Rattle.jade_run.specs.steps.Homes.{home_of}
use Rattle.jade_run.proofs.Keeping.{full_by_its_turns, good_same, recording_same, reported_by_its_turns}
use Rattle.jade_run.proofs.Running.{planned, run_is_shown}
use Rattle.jade_run.proofs.record.record_by_workers.Goals as goal

pub record_of-requires-clause-good : goal.record_of-requires-clause-good
record_of-requires-clause-good g c =
    good_same c.args.text.now (home_of c.args.home.now) c.args.checked c.in_ok-compiled.compiled c.checked.result.now c.in_ok-compiled.ensures c.checked.ensures c.requires.good

pub record_of-requires-clause-meaning : goal.record_of-requires-clause-meaning
record_of-requires-clause-meaning g c =
    reported_by_its_turns c.in_ok-report.report c.in_ok-ran.ran.report c.in_ok-ran.ran.plan c.in_ok-compiled.compiled c.checked.result.now c.args.numbers.now
    c.args.limit c.in_ok-report.ensures.is c.in_ok-report.ensures.meaning c.in_ok-ran.ensures c.checked.ensures

pub record_of-requires-clause-full : goal.record_of-requires-clause-full
record_of-requires-clause-full g c =
    full_by_its_turns c.in_ok-report.report c.in_ok-ran.ran.report c.in_ok-ran.ran.plan c.in_ok-compiled.compiled c.checked.result.now c.args.numbers.now
    c.args.limit c.in_ok-report.ensures.is c.in_ok-report.ensures.full c.in_ok-ran.ensures c.checked.ensures

pub returns : goal.returns
returns g c =
    let ran = c.in_ok-ran.ran in (
      turns_in ran.report.turns,
      record {
        run = c.in_ok-kept.kept;
        of_run = recording_same c.args.text.now (home_of c.args.home.now) c.args.checked c.in_ok-compiled.compiled c.checked.result.now c.args.numbers.now c.args.limit c.in_ok-report.report
            ran.report c.in_ok-kept.kept c.in_ok-compiled.ensures c.checked.ensures c.in_ok-report.ensures.is c.in_ok-kept.ensures;
        written = c.in_ok-answer.ensures;
        shown = run_is_shown (record { plan = ran.plan; turns = ran.report.turns }) c.args.checked.program c.args.numbers.now c.args.limit _ _ c.see.ensures
            (planned ran.plan c.in_ok-compiled.compiled c.args.checked c.args.numbers.now c.args.limit c.in_ok-ran.ensures c.in_ok-compiled.ensures)
            c.in_ok-report.ensures.full;
      },
    )
