use Rattle.std.proofs.Common.{◌∙◌, ap}
use Rattle.run_record.specs.Recording.{Recorded}
use Rattle.jade_run.proofs.Replaying.{formless_is, settled_given, settled_replayed}
use Rattle.jade_run.proofs.Running.{answered_ready}
use Rattle.jade_run.proofs.replay.replay_text.Goals as goal

pub returns-in-Err-Form : goal.returns-in-Err-Form
returns-in-Err-Form g c =
    formless_is c.args.bytes.now c.in-Err-Form.line c.formless.result (rw c.in-Err-Form.field-0-is at c.in-Err-Form.ensures) c.formless.ensures

pub returns : goal.returns
returns g c =
    let answer = c.in-Answered.answer in
    settled_replayed c.args.bytes.now c.in-Ok.record answer.text.items answer.status c.in-Ok.ensures.whole c.in-Ok.ensures.fit
    (settled_given c.bytes.result.now c.in-Ok.record.text c.as_slice.result.now c.in-Ok.record.numbers answer.text.items answer.status
    (c.bytes.ensures ∙ ap (λ (x : Recorded). x.text) c.record.view_is) (c.as_slice.ensures ∙ ap (λ (x : Recorded). x.numbers) c.record.view_is)
    (answered_ready c.bytes.result.now c.as_slice.result.now c.in_ok-ready.ready answer c.in-Answered.is c.in_ok-ready.ensures))
