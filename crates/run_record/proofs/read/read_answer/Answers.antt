use Rattle.std.proofs.Common.{arith}
use Rattle.run_record.proofs.Options.{went_well}
use Rattle.run_record.proofs.Passing.{answer_begun, answer_goes_on, answer_missing, answer_ends}
use Rattle.run_record.proofs.read.read_answer.Goals as goal

pub lines-init : goal.lines-init
lines-init c = answer_begun c.args.count c.args.rest.number c.args.rest.bytes.now c.empty-lines.result c.empty-lines.ensures

pub lines-preserved : goal.lines-preserved
lines-preserved c =
    answer_goes_on c.args.count c.args.rest.number c.args.rest.bytes.now c.lines.lines c.lines.left.number c.lines.left.bytes.now c.in-Some.line.now c.in-Some.next.bytes.now
    c.in-Some.next.number c.in-Ok.line c.push.new.self c.lines.invariant (omega arith) c.in-Some.ensures.none c.in-Some.ensures.next c.in-Ok.ensures
    (went_well _ _ _ c.if-is_err.ensures.value c.push.ensures)

pub returns-in-None : goal.returns-in-None
returns-in-None c =
    answer_missing c.args.count c.args.rest.number c.args.rest.bytes.now c.lines.lines c.lines.left.number c.lines.left.bytes.now c.lines.invariant c.in-None.ensures.none

pub returns : goal.returns
returns c =
    let d = answer_ends c.args.count c.args.rest.number c.args.rest.bytes.now c.lines.lines c.lines.left.number c.lines.left.bytes.now c.lines.invariant (omega arith) in
    (d.counted, c.lines.invariant.lacks, d.passed)
