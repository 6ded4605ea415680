use Rattle.std.proofs.Common.{◌∙◌, ap, refl, sym}
use Rattle.jade_syntax.specs.Image.{program}
use Rattle.run_record.specs.Recording.{Recorded}
use Rattle.jade_run.specs.steps.Homes.{home_of}
use Rattle.jade_run.proofs.Replaying.{compared_with, full_given, off_is}
use Rattle.jade_run.proofs.replay.replay_followed.Goals as goal

pub returns-in-Ok : goal.returns-in-Ok
returns-in-Ok c =
    let r = c.args.recorded.now in
    let p = c.args.checked.now in
    let numbers = c.as_slice.ensures ∙ ap (λ (x : Recorded). x.numbers) c.recorded.view_is in
    let limit = ap (λ (x : Recorded). x.limit) c.recorded.view_is in
    compared_with c.args.bytes.now r (home_of c.args.home.now) p p c.in-Ok.report.turns c.args.lists.now c.compared.result c.requires.plays refl c.in-Ok.ensures.turns c.requires.named
    (full_given (program p.program) c.as_slice.result.now r.numbers c.recorded.inside.limit r.limit c.args.lists.now numbers limit c.in-Ok.ensures.full)
    c.compared.ensures

pub returns-in-Err-Off : goal.returns-in-Err-Off
returns-in-Err-Off c =
    let r = c.args.recorded.now in
    let p = c.args.checked.now in
    let numbers = c.as_slice.ensures ∙ ap (λ (x : Recorded). x.numbers) c.recorded.view_is in
    let limit = ap (λ (x : Recorded). x.limit) c.recorded.view_is in
    off_is c.args.bytes.now r (home_of c.args.home.now) p p c.args.lists.now c.turnless.result c.requires.plays refl c.requires.named
    (λ h. c.in-Err-Off.ensures.off c.in-Err-Off.field-0-is
    (full_given (program p.program) r.numbers c.as_slice.result.now r.limit c.recorded.inside.limit c.args.lists.now (sym numbers) (sym limit) h))
    c.turnless.ensures
