use Rattle.run_record.specs.Form.{at_turns}
use Rattle.run_record.proofs.Options.{none_of, went_well}
use Rattle.run_record.proofs.Passing.{turns_begun, turns_go_on, turns_end, turns_unread, missing, turns_open}
use Rattle.run_record.proofs.read.read_turns.Goals as goal

pub lines-init : goal.lines-init
lines-init c = turns_begun c.args.rest.number c.args.rest.bytes.now c.empty-turns.result c.empty-turns.ensures

pub returns-in-Some-count_of : goal.returns-in-Some-count_of
returns-in-Some-count_of c =
    turns_end c.args.rest.number c.args.rest.bytes.now c.lines.turns c.lines.left.number c.lines.left.bytes.now c.in-Some.line.now c.in-Some.next.bytes.now c.in-Some.next.number
    c.in-Some-count_of.count c.lines.invariant c.in-Some.ensures.none c.in-Some.ensures.next c.in-Some-count_of.ensures

pub lines-preserved : goal.lines-preserved
lines-preserved c =
    turns_go_on c.args.rest.number c.args.rest.bytes.now c.lines.turns c.lines.left.number c.lines.left.bytes.now c.in-Some.line.now c.in-Some.next.bytes.now c.in-Some.next.number
    c.in-Ok.turn c.push.new.self c.lines.invariant c.in-Some.ensures.none c.in-Some.ensures.next c.in-Ok.ensures (went_well _ _ _ c.if-is_err.ensures.value c.push.ensures)

pub returns-in-Err : goal.returns-in-Err
returns-in-Err c =
    turns_unread c.args.rest.number c.args.rest.bytes.now c.lines.turns c.lines.left.number c.lines.left.bytes.now c.in-Some.line.now c.in-Some.next.bytes.now c.in-Err.unfit
    c.at_line.result c.lines.invariant c.in-Some.ensures.none c.in-Err.ensures c.in-None.ensures c.at_line.ensures

pub returns : goal.returns
returns c =
    c.lines.invariant.passed.breaks c.lines.left.number
    (missing at_turns c.lines.left.number c.lines.left.bytes.now turns_open (none_of _ _ _ c.in_default.not-Some c.line.ensures.none))
