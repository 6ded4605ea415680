use Rattle.std.proofs.Common.{◌≡◌, ◌++◌, ap, sym, ◌∙◌, subst}
use Rattle.run_record.specs.Pieces.{IsLabel}
use Rattle.record_parts.specs.Labels.{member_text}
use Rattle.record_parts.proofs.Spelling.{called, is_label}
use Rattle.record_parts.proofs.labels.label_of.Goals as goal

pub returns-clause-spelled : goal.returns-clause-spelled
returns-clause-spelled c h =
    let name = c.label-member.result.0.now in
    let index = c.label-member.result.1 in
    let whole : c.push_label.new.text.items ≡ name ++ member_text index =
    c.in_ok-push_label.ensures.put ∙ ap (λ l. l ++ (name ++ member_text index)) c.new-text.ensures.items in
    subst IsLabel (sym whole) (is_label name index (called c.args.checked.now.program c.args.object.0 _ h c.label-member.ensures) c.in_ok-push_label.ensures.fits)
