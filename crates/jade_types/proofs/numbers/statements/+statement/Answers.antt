use Rattle.std.proofs.lemmas.Result.{on_ok_weaker}
use Rattle.jade_types.proofs.Going.{one_more, arm, task_puts, withonly_goes}
use Rattle.jade_syntax.specs.Image.{forms, statement_forms}
use Rattle.jade_syntax.proofs.Opened.{withonly_is}
use Rattle.jade_types.proofs.numbers.statements.+statement.Goals as goal

pub number_block-loop-i-preserved : goal.number_block-loop-i-preserved
number_block-loop-i-preserved t c = one_more c.args.block.now c.loop-i.i _ c.at.ensures c.loop-i.invariant c.in_ok-number_statement.ensures

pub number_statement-returns-in_ok-number_block-in-Withonly : goal.number_statement-returns-in_ok-number_block-in-Withonly
number_statement-returns-in_ok-number_block-in-Withonly t c =
    on_ok_weaker _ (λ last. arm _ _ _ c.in-Withonly.is (withonly_is forms statement_forms _ _ _ _)
    (withonly_goes _ _ _ _ c.in_ok-number_block-in-Withonly.ensures last)) c.number_task.ensures

pub number_task-returns : goal.number_task-returns
number_task-returns t c = on_ok_weaker _ (task_puts c.args.body.now _ _ c.in_ok-number_names.ensures c.in_ok-created.ensures) c.number_block.ensures
