use Rattle.jade_types.proofs.Blocks.{blocks_more, arm, if_passed, else_passed, loop_passed, task_passed}
use Rattle.jade_syntax.specs.PlacedImage.{forms, statement_forms}
use Rattle.jade_syntax.proofs.Opened.{if_none, if_some, for_is, withonly_is}
use Rattle.jade_types.proofs.faults.statements.+statement.Goals as goal

pub visit_block-loop-i-preserved : goal.visit_block-loop-i-preserved
visit_block-loop-i-preserved t c = blocks_more c.args.statements.now c.loop-i.i c.at.result.now c.at.ensures c.loop-i.invariant c.in-Ok.ensures

pub visit_statement-returns-in-None : goal.visit_statement-returns-in-None
visit_statement-returns-in-None t c =
    arm _ _ _ c.in-If.is (if_none forms statement_forms _ _ _ c.in-None.is) (if_passed c.visit_needed.ensures c.in_ok-visit_block-in-If.ensures)

pub visit_statement-returns-in_ok-visit_block-in-Some : goal.visit_statement-returns-in_ok-visit_block-in-Some
visit_statement-returns-in_ok-visit_block-in-Some t c =
    arm _ _ _ c.in-If.is (if_some forms statement_forms _ _ _ _ c.in-Some.is)
    (else_passed c.visit_needed.ensures c.in_ok-visit_block-in-If.ensures c.in_ok-visit_block-in-Some.ensures)

pub visit_statement-returns-in_ok-visit_turns-in-For : goal.visit_statement-returns-in_ok-visit_turns-in-For
visit_statement-returns-in_ok-visit_turns-in-For t c =
    arm _ _ _ c.in-For.is (for_is forms statement_forms _ _ _ _ _)
    (loop_passed _ _ c.visit_bounds.ensures c.in_ok-visit_turns-in-For.ensures.noted c.in_ok-visit_turns-in-For.ensures.scope)

pub visit_statement-returns-in_ok-visit_block-in-Withonly-2 : goal.visit_statement-returns-in_ok-visit_block-in-Withonly-2
visit_statement-returns-in_ok-visit_block-in-Withonly-2 t c =
    arm _ _ _ c.in-Withonly.is (withonly_is forms statement_forms _ _ _ _)
    (task_passed c.in-Withonly.names c.in_ok-visit_block-in-Withonly.ensures c.in_ok-inner-in-Withonly.ensures.noted
    c.in_ok-inner-in-Withonly.ensures.scope c.in_ok-visit_block-in-Withonly-2.ensures)
