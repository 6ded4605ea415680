use Rattle.std.proofs.Common.{◌∙◌, ap, refl}
use Rattle.std.specs.Prelude.{Ok}
use Rattle.jade_syntax.specs.Image.{program}
use Rattle.run_record.specs.Recording.{Recorded}
use Rattle.jade_run.specs.steps.Homes.{home_of}
use Rattle.jade_run.proofs.Replaying.{compared_with, full_given, run_full}
use Rattle.jade_run.proofs.replay.replay_by_run.Goals as goal

pub returns-then-are_turns : goal.returns-then-are_turns
returns-then-are_turns g c =
    let r = c.args.recorded.now in
    let p = c.args.compiled.now in
    let numbers = c.as_slice-numbers.ensures ∙ ap (λ (x : Recorded). x.numbers) c.recorded.view_is in
    let limit = ap (λ (x : Recorded). x.limit) c.recorded.view_is in
    let same = c.are_turns.ensures.0 c.if-are_turns.true in
    let full = run_full c.in_ok-report.report c.in_ok-ran.ran.report c.in_ok-ran.ran.plan p p c.as_slice-numbers.result.now c.recorded.inside.limit
    c.args.lists.now c.in_ok-report.ensures.is same c.in_ok-report.ensures.full c.in_ok-ran.ensures refl in
    compared_with c.args.bytes.now r (home_of c.args.home.now) p c.checked.result.now c.in_ok-report.report.turns c.args.lists.now (Ok c.in_ok-answer.answer) c.requires.plays
    c.checked.ensures same c.requires.named
    (full_given (program p.program) c.as_slice-numbers.result.now r.numbers c.recorded.inside.limit r.limit c.args.lists.now numbers limit full)
    c.in_ok-answer.ensures
