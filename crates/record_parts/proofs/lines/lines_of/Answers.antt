use Rattle.run_record.proofs.Options.{none_of, went_well}
use Rattle.record_parts.proofs.Cutting.{lines_begun, lines_go_on, lines_end}
use Rattle.record_parts.proofs.lines.lines_of.Goals as goal

pub lines-init : goal.lines-init
lines-init c = lines_begun c.args.text.now c.empty-lines.result c.empty-lines.ensures

pub lines-preserved : goal.lines-preserved
lines-preserved c =
    lines_go_on c.args.text.now c.lines.lines c.in-Some.line.now c.lines.left.now c.in-Some.rest.now c.in_ok-line.line c.push.new.self c.lines.invariant c.in-Some.ensures
    c.in_ok-line.ensures (went_well _ _ _ c.if-is_err.ensures.value c.push.ensures)

pub returns : goal.returns
returns c =
    lines_end c.args.text.now c.lines.lines c.lines.left.now c.lines.invariant c.requires.0 c.requires.1
    (none_of _ _ _ c.in_default.not-Some c.first_line.ensures)
