use Rattle.std.proofs.Common.{ap, ◌∙◌}
use Rattle.run_record.specs.Recording.{recording}
use Rattle.run_record.proofs.Adding.{parts_whole}
use Rattle.run_record.proofs.write.whole_text.Goals as goal

pub returns : goal.returns
returns c =
    let r = c.recording.inside in
    parts_whole (record { limit = r.limit; numbers = r.numbers; turns = r.turns; answer = r.answer; text = r.text }) _ _ _ _ _ _ c.bytes.result.now
    c.in_ok-text.ensures.items c.in_ok-push_counted.ensures c.in_ok-push_numbers_line.ensures c.in_ok-push_turns.ensures c.in_ok-push_answer.ensures
    c.in_ok-extend_from_slice.ensures.items c.bytes.ensures
    ∙ ap recording c.recording.view_is
