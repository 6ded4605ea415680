-- The buffer that was not filled whole holds the whole text.
use Rattle.std.proofs.Common.{◌<◌, length, arith, ◌∙◌}
use Rattle.jade_base.proofs.Reading.{WholeText-filled, take-handed_back}
use Rattle.jade_base.proofs.text.read_text.Goals as goal

pub returns-in-Ok-2-clause-ok : goal.returns-in-Ok-2-clause-ok
returns-in-Ok-2-clause-ok g c =
    let room : c.in-Ok-fill.filled < length c.fill.new.buffer = omega (arith, c.in-Ok.ensures) in
    WholeText-filled _ c.in-Ok-fill.ensures.filled (omega arith) (c.in-Ok-fill.ensures.ended room)
    (c.truncate.ensures.items ∙ take-handed_back _ c.in-Ok.text.len _ _ (omega arith) (omega (arith, c.in-Ok.text.ok.0, c.in-Ok.ensures)))
