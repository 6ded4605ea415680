use Rattle.std.proofs.Common.{arith, refl}
use Rattle.jade_syntax.specs.Image.{program}
use Rattle.jade_meaning.specs.ReportAnswer.{report_answer}
use Rattle.jade_meaning.specs.Turns.{turns_in}
use Rattle.jade_meaning.specs.Moved.{moved_answer}
use Rattle.jade_run.specs.steps.Homes.{home_of}
use Rattle.jade_run.proofs.Keeping.{found_of, good_is_shaped, is_recorded, lines_asked, lines_tell, lists_counted}
use Rattle.jade_run.proofs.Running.{faults_ascend}
use Rattle.jade_run.proofs.record.record_of.Goals as goal

pub answer_of-requires : goal.answer_of-requires
answer_of-requires c =
    let p = program c.args.checked.now.program in
    let turns = turns_in c.args.report.now.turns in
    faults_ascend c.args.report.now p c.args.numbers.now c.args.limit turns c.requires.meaning
    (c.report_ascends.ensures p c.args.numbers.now c.args.limit turns).faults

pub lines_of-requires : goal.lines_of-requires
lines_of-requires c =
    let shaped = good_is_shaped c.read_is_shaped.ensures c.args.text.now c.args.checked.now.program (home_of c.args.home.now) c.requires.within c.requires.good in
    lines_asked c.args.checked.now.program (moved_answer (home_of c.args.home.now) (report_answer c.args.limit c.args.report.now)) _ _ _ shaped c.program.ensures.limits c.in_ok-answer.ensures
    c.as_slice.ensures.value

pub labelled-requires-clause-shaped : goal.labelled-requires-clause-shaped
labelled-requires-clause-shaped c =
    good_is_shaped c.read_is_shaped.ensures c.args.text.now c.args.checked.now.program (home_of c.args.home.now) c.requires.within c.requires.good

pub labelled-requires-clause-lists : goal.labelled-requires-clause-lists
labelled-requires-clause-lists c =
    lists_counted c.args.report.now c.args.checked.now.program c.args.numbers.now c.args.limit (turns_in c.args.report.now.turns) c.requires.meaning

pub invariant_of-result : goal.invariant_of-result
invariant_of-result c =
    let shaped = good_is_shaped c.read_is_shaped.ensures c.args.text.now c.args.checked.now.program (home_of c.args.home.now) c.requires.within c.requires.good in
    let found = found_of c.args.checked.now.program (moved_answer (home_of c.args.home.now) (report_answer c.args.limit c.args.report.now)) _ _ _ c.in_ok-lines.lines shaped c.program.ensures.limits
    c.in_ok-answer.ensures c.as_slice.ensures.value c.in_ok-lines.ensures in
    let few = c.ranges.limit.fits in
    is_recorded c.args.limit c.args.numbers.now c.in_ok-given.given c.in_ok-turns.turns c.in_ok-lines.lines c.in_ok-source.source c.requires.some
    (omega (arith, few)) c.in_ok-given.ensures c.fit.ensures c.requires.few c.in_ok-turns.ensures.fit found.few found.are.one_each

pub returns : goal.returns
returns c =
    let p = c.args.checked.now.program in
    let turns = turns_in c.args.report.now.turns in
    let shaped = good_is_shaped c.read_is_shaped.ensures c.args.text.now p (home_of c.args.home.now) c.requires.within c.requires.good in
    let found = found_of p (moved_answer (home_of c.args.home.now) (report_answer c.args.limit c.args.report.now)) _ _ _ c.in_ok-lines.lines shaped c.program.ensures.limits
    c.in_ok-answer.ensures c.as_slice.ensures.value c.in_ok-lines.ensures in
    let few = c.ranges.limit.fits in
    record {
      fit = is_recorded c.args.limit c.args.numbers.now c.in_ok-given.given c.in_ok-turns.turns c.in_ok-lines.lines c.in_ok-source.source c.requires.some
          (omega (arith, few)) c.in_ok-given.ensures c.fit.ensures c.requires.few c.in_ok-turns.ensures.fit found.few found.are.one_each;
      limited = refl;
      given = c.in_ok-given.ensures;
      taken = c.in_ok-turns.ensures.turns;
      full = c.requires.full;
      told = lines_tell c.args.report.now (program p) (home_of c.args.home.now) c.args.numbers.now c.args.limit turns c.in_ok-lines.lines c.requires.meaning
          (c.report_tells.ensures (program p) c.args.numbers.now c.args.limit turns) found.are;
      of_text = c.in_ok-source.ensures;
    }
