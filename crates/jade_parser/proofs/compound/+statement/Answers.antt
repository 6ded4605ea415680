use Rattle.jade_parser.proofs.Steps.{residual}
use Rattle.jade_parser.proofs.Compounds.{block_unopened, block_opened, block_refused, block_kept, block_read}
use Rattle.jade_parser.proofs.Compounds.{nothing_begins, test_refused, then_refused, if_alone, other_refused}
use Rattle.jade_parser.proofs.Compounds.{if_else, for_unnamed, for_not_in, low_refused, high_refused}
use Rattle.jade_parser.proofs.Compounds.{body_refused, for_read, section_refused, do_refused, paren_refused}
use Rattle.jade_parser.proofs.Compounds.{names_refused, task_refused, withonly_read, amends_refused}
use Rattle.jade_parser.proofs.Compounds.{cont_refused, with_open, with_read}
use Rattle.jade_parser.proofs.compound.+statement.Goals as goal

pub parse_block-returns-in_err-at : goal.parse_block-returns-in_err-at
parse_block-returns-in_err-at t c = residual _ _ _ _ c.from_residual.ensures.1 (block_unopened _ _ _ _ c.requires.within c.in_err-at.ensures)

pub parse_block-returns-in_err-parse_statement : goal.parse_block-returns-in_err-parse_statement
parse_block-returns-in_err-parse_statement t c =
    residual _ _ _ _ c.from_residual-in_err-parse_statement.ensures.1
    (block_refused _ _ _ _ _ _ c.statements.invariant c.in_err-parse_statement.ensures)

pub parse_block-statements-preserved : goal.parse_block-statements-preserved
parse_block-statements-preserved t c =
    block_kept _ _ _ _ _ _ _ _ c.in_ok-put-in-Some.ensures c.statements.invariant (rw c.in-Some.is at c.in_ok-parse_statement.ensures)

pub parse_block-statements-init : goal.parse_block-statements-init
parse_block-statements-init t c = block_opened _ _ _ _ _ c.empty-all.ensures c.in_ok-at.ensures

pub parse_block-returns-in-None : goal.parse_block-returns-in-None
parse_block-returns-in-None t c = block_read _ _ _ _ _ c.statements.invariant (rw c.in-None.is at c.in_ok-parse_statement.ensures)

pub parse_if-returns-in_err-test : goal.parse_if-returns-in_err-test
parse_if-returns-in_err-test t c = residual _ _ _ _ c.from_residual.ensures.1 (test_refused _ _ _ c.requires.read _ c.in_err-test.ensures)

pub parse_if-returns-in_err-then : goal.parse_if-returns-in_err-then
parse_if-returns-in_err-then t c =
    residual _ _ _ _ c.from_residual-in_err-then.ensures.1 (then_refused _ _ _ c.requires.read _ _ _ c.in_ok-test.ensures c.in_err-then.ensures)

pub parse_if-returns-in_err-other : goal.parse_if-returns-in_err-other
parse_if-returns-in_err-other t c =
    residual _ _ _ _ c.from_residual-in_err-other.ensures.1
    (other_refused _ _ _ c.requires.read _ _ _ _ _ c.in_ok-test.ensures c.in_ok-then.ensures (c.is_at.ensures.yes c.if-is_at.true) c.in_err-other.ensures)

pub parse_if-returns-in_ok-other : goal.parse_if-returns-in_ok-other
parse_if-returns-in_ok-other t c =
    if_else _ _ _ c.requires.read _ _ _ _ _ _ c.in_ok-test.ensures c.in_ok-then.ensures (c.is_at.ensures.yes c.if-is_at.true) c.in_ok-other.ensures

pub parse_if-returns-else-is_at : goal.parse_if-returns-else-is_at
parse_if-returns-else-is_at t c = if_alone _ _ _ c.requires.read _ _ _ _ c.in_ok-test.ensures c.in_ok-then.ensures (c.is_at.ensures.no c.if-is_at.false)

pub parse_for-returns-in_err-name : goal.parse_for-returns-in_err-name
parse_for-returns-in_err-name t c = residual _ _ _ _ c.from_residual.ensures.1 (for_unnamed _ _ _ c.requires.read _ c.in_err-name.ensures)

pub parse_for-returns-in_err-begun : goal.parse_for-returns-in_err-begun
parse_for-returns-in_err-begun t c =
    residual _ _ _ _ c.from_residual-in_err-begun.ensures.1
    (for_not_in _ _ _ c.requires.read _ _ c.pos_at-pos.ensures c.in_ok-name.ensures _ c.in_err-begun.ensures)

pub parse_for-returns-in_err-low : goal.parse_for-returns-in_err-low
parse_for-returns-in_err-low t c =
    residual _ _ _ _ c.from_residual-in_err-low.ensures.1
    (low_refused _ _ _ c.requires.read _ _ c.pos_at-pos.ensures c.in_ok-name.ensures _ c.in_ok-begun.ensures _ c.in_err-low.ensures)

pub parse_for-returns-in_err-high : goal.parse_for-returns-in_err-high
parse_for-returns-in_err-high t c =
    residual _ _ _ _ c.from_residual-in_err-high.ensures.1
    (high_refused _ _ _ c.requires.read _ _ c.pos_at-pos.ensures c.in_ok-name.ensures _ c.in_ok-begun.ensures _ _ c.in_ok-low.ensures _
    c.in_err-high.ensures)

pub parse_for-returns-in_err-body : goal.parse_for-returns-in_err-body
parse_for-returns-in_err-body t c =
    residual _ _ _ _ c.from_residual-in_err-body.ensures.1
    (body_refused _ _ _ c.requires.read _ _ c.pos_at-pos.ensures c.in_ok-name.ensures _ c.in_ok-begun.ensures _ _ c.in_ok-low.ensures _ _
    c.in_ok-high.ensures _
    c.in_err-body.ensures)

pub parse_for-returns : goal.parse_for-returns
parse_for-returns t c = for_read _ _ _ c.requires.read _ _ c.pos_at-pos.ensures c.in_ok-name.ensures _ c.in_ok-begun.ensures _ _ c.in_ok-low.ensures _ _
    c.in_ok-high.ensures _ _ c.in_ok-body.ensures

pub parse_withonly-returns-in_err-section : goal.parse_withonly-returns-in_err-section
parse_withonly-returns-in_err-section t c = residual _ _ _ _ c.from_residual.ensures.1 (section_refused _ _ c.requires.read _ c.in_err-section.ensures)

pub parse_withonly-returns-in_err-done : goal.parse_withonly-returns-in_err-done
parse_withonly-returns-in_err-done t c =
    residual _ _ _ _ c.from_residual-in_err-done.ensures.1 (do_refused _ _ c.requires.read _ _ c.in_ok-section.ensures _ c.in_err-done.ensures)

pub parse_withonly-returns-in_err-opened : goal.parse_withonly-returns-in_err-opened
parse_withonly-returns-in_err-opened t c =
    residual _ _ _ _ c.from_residual-in_err-opened.ensures.1
    (paren_refused _ _ c.requires.read _ _ c.in_ok-section.ensures _ c.in_ok-done.ensures _ c.in_err-opened.ensures)

pub parse_withonly-returns-in_err-names : goal.parse_withonly-returns-in_err-names
parse_withonly-returns-in_err-names t c =
    residual _ _ _ _ c.from_residual-in_err-names.ensures.1
    (names_refused _ _ c.requires.read _ _ c.in_ok-section.ensures _ c.in_ok-done.ensures _ c.in_ok-opened.ensures _ c.in_err-names.ensures)

pub parse_withonly-returns-in_err-body : goal.parse_withonly-returns-in_err-body
parse_withonly-returns-in_err-body t c =
    residual _ _ _ _ c.from_residual-in_err-body.ensures.1
    (task_refused _ _ c.requires.read _ _ c.in_ok-section.ensures _ c.in_ok-done.ensures _ c.in_ok-opened.ensures _ _ c.in_ok-names.ensures _
    c.in_err-body.ensures)

pub parse_withonly-returns : goal.parse_withonly-returns
parse_withonly-returns t c = withonly_read _ _ c.requires.read _ _ c.in_ok-section.ensures _ c.in_ok-done.ensures _ c.in_ok-opened.ensures _ _
    c.in_ok-names.ensures _ _ _ c.pos_at-pos.ensures c.in_ok-body.ensures

pub parse_with-returns-in_err-section : goal.parse_with-returns-in_err-section
parse_with-returns-in_err-section t c = residual _ _ _ _ c.from_residual.ensures.1 (amends_refused _ _ c.requires.read _ c.in_err-section.ensures)

pub parse_with-returns-in_err-done : goal.parse_with-returns-in_err-done
parse_with-returns-in_err-done t c =
    residual _ _ _ _ c.from_residual-in_err-done.ensures.1 (cont_refused _ _ c.requires.read _ _ c.in_ok-section.ensures _ c.in_err-done.ensures)

pub parse_with-returns-in_err-end : goal.parse_with-returns-in_err-end
parse_with-returns-in_err-end t c =
    residual _ _ _ _ c.from_residual-in_err-end.ensures.1
    (with_open _ _ c.requires.read _ _ c.in_ok-section.ensures _ c.in_ok-done.ensures _ c.in_err-end.ensures)

pub parse_with-returns : goal.parse_with-returns
parse_with-returns t c = with_read _ _ c.requires.read _ _ c.in_ok-section.ensures _ c.in_ok-done.ensures _ _ c.pos_at-pos.ensures c.in_ok-end.ensures

pub parse_statement-returns-in-Some-Nothing : goal.parse_statement-returns-in-Some-Nothing
parse_statement-returns-in-Some-Nothing t c = nothing_begins _ _ _ c.requires.within (rw c.in-Some-Nothing.field-0-is at c.in-Some-Nothing.ensures)
