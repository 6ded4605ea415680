use Rattle.std.proofs.Common.{◌++◌, ap, ◌∙◌}
use Rattle.run_record.proofs.Adding.{plain_line_more}
use Rattle.run_record.proofs.write.push_lines.Goals as goal

pub loop-i-preserved : goal.loop-i-preserved
loop-i-preserved c =
    plain_line_more _ _ _ _ _ _ _ c.at.ensures c.loop-i.invariant (c.in_ok-extend_from_slice.ensures.items ∙ ap (λ l. c.loop-i.text.items ++ l) c.bytes.ensures) c.in_ok-push.ensures.items
