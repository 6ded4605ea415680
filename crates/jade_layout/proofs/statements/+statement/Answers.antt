use Rattle.std.proofs.Common.{arith, refl}
use Rattle.std.proofs.lemmas.Result.{on_ok_weaker}
use Rattle.jade_layout.specs.Spelling.{statement_tokens}
use Rattle.jade_layout.proofs.Opened.{if_none, if_some, for_is, withonly_is, with_is}
use Rattle.jade_layout.proofs.Adding.{after, arm, more, all, handed}
use Rattle.jade_layout.proofs.statements.+statement.Goals as goal

pub put_statement-returns-in_ok-put_bounds-in-For : goal.put_statement-returns-in_ok-put_bounds-in-For
put_statement-returns-in_ok-put_bounds-in-For t c =
    on_ok_weaker _ (λ last. arm _ _ _ _ _ c.in-For.is (for_is _ _ _ _ _) (after c.in_ok-put_bounds-in-For.ensures last)) c.put_block-in-For.ensures

pub put_statement-returns-in_ok-put_handed-in-Withonly : goal.put_statement-returns-in_ok-put_handed-in-Withonly
put_statement-returns-in_ok-put_handed-in-Withonly t c =
    on_ok_weaker _ (λ last. arm _ _ _ _ _ c.in-Withonly.is (withonly_is _ _ _ _)
    (after (handed _ _ c.in_ok-put_section-in-Withonly.ensures c.in_ok-put_handed-in-Withonly.ensures) last)) c.put_block-in-Withonly.ensures

pub put_statement-returns-in-None : goal.put_statement-returns-in-None
put_statement-returns-in-None t c = arm _ _ _ _ _ c.in-If.is (if_none _ _ _ c.in-None.is) (after c.in_ok-put_test-in-If.ensures c.in_ok-put_block-in-If.ensures)

pub put_statement-returns-in-Some : goal.put_statement-returns-in-Some
put_statement-returns-in-Some t c =
    on_ok_weaker _ (λ last. arm _ _ _ _ _ c.in-If.is (if_some _ _ _ _ c.in-Some.is)
    (after (after c.in_ok-put_test-in-If.ensures c.in_ok-put_block-in-If.ensures) last)) c.put_other.ensures

pub put_with-returns : goal.put_with-returns
put_with-returns t c = λ at. on_ok_weaker _
    (λ last. arm _ _ _ _ _ refl (with_is at _) (after (after (after c.in_ok-put.ensures c.in_ok-put_block.ensures) c.in_ok-put-2.ensures) last)) c.put-3.ensures

pub put_block-loop-i-preserved : goal.put_block-loop-i-preserved
put_block-loop-i-preserved t c = more statement_tokens _ _ _ _ c.loop-i.i _ c.at.ensures c.loop-i.invariant c.in_ok-put_statement.ensures

pub put_block-returns : goal.put_block-returns
put_block-returns t c =
    on_ok_weaker _ (λ last. after (after c.in_ok-put.ensures (all statement_tokens _ _ _ c.loop-i.i (omega arith) c.loop-i.invariant)) last) c.put-2.ensures
