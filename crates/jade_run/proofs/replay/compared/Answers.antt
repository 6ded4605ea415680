use Rattle.std.proofs.Common.{ap, refl}
use Rattle.jade_syntax.specs.Image.{program}
use Rattle.jade_meaning.specs.Turns.{turns_in}
use Rattle.run_record.specs.Recording.{Recorded}
use Rattle.jade_run.specs.steps.Homes.{home_of}
use Rattle.jade_run.proofs.Replaying.{is_alike, is_unlike, lines_are, lines_are_not, told_text}
use Rattle.jade_run.proofs.Running.{faults_ascend}
use Rattle.jade_run.proofs.replay.compared.Goals as goal

pub answer_of-requires : goal.answer_of-requires
answer_of-requires c =
    let p = program c.args.checked.now.program in
    let r = c.args.recorded.now in
    let turns = turns_in c.args.report.now.turns in
    faults_ascend c.args.report.now p r.numbers r.limit turns c.requires.meaning (c.report_ascends.ensures p r.numbers r.limit turns).faults

pub returns-then-are_lines : goal.returns-then-are_lines
returns-then-are_lines c =
    let p = program c.args.checked.now.program in
    let r = c.args.recorded.now in
    let lists = c.args.report.now.turns in
    let told = told_text c.args.report.now p (home_of c.args.home.now) r.numbers r.limit c.recorded.inside.limit lists c.in_ok-answer.answer.text.items c.in_ok-answer.answer.status
    (ap (λ (x : Recorded). x.limit) c.recorded.view_is) c.requires.meaning (c.report_tells.ensures p r.numbers r.limit (turns_in lists)) c.in_ok-answer.ensures in
    is_alike r c.args.checked.now.program (home_of c.args.home.now) lists c.in_ok-answer.answer.text.items _ _ told
    (lines_are c.are_lines.result c.recorded.inside.answer r.answer c.deref.result.now c.in_ok-answer.answer.text.items c.are_lines.ensures c.if-are_lines.true
    (ap (λ (x : Recorded). x.answer) c.recorded.view_is) c.deref.ensures.value) c.in_ok-from_slice.ensures.items refl

pub returns : goal.returns
returns c =
    let p = program c.args.checked.now.program in
    let r = c.args.recorded.now in
    let lists = c.args.report.now.turns in
    let told = told_text c.args.report.now p (home_of c.args.home.now) r.numbers r.limit c.recorded.inside.limit lists c.in_ok-answer.answer.text.items c.in_ok-answer.answer.status
    (ap (λ (x : Recorded). x.limit) c.recorded.view_is) c.requires.meaning (c.report_tells.ensures p r.numbers r.limit (turns_in lists)) c.in_ok-answer.ensures in
    is_unlike r c.args.checked.now.program (home_of c.args.home.now) lists c.in_ok-answer.answer.text.items _ _ told
    (lines_are_not c.are_lines.result c.recorded.inside.answer r.answer c.deref.result.now c.in_ok-answer.answer.text.items c.are_lines.ensures c.if-are_lines.false
    (ap (λ (x : Recorded). x.answer) c.recorded.view_is) c.deref.ensures.value) c.in_ok-from_slice-2.ensures.items refl
