use Rattle.std.proofs.Common.{◌++◌, [], ◌∷◌, ap, ◌∙◌, arith}
use Rattle.task_machine.specs.Executions.{without_content}
use Rattle.task_machine.proofs.Rows.{rows_more, rows_whole}
use Rattle.task_machine.proofs.holdings.Holdings.none_in.Goals as goal

pub rows-preserved : goal.rows-preserved
rows-preserved c =
    c.in_ok-push.ensures.items
    ∙ ap (λ h. c.rows.rows.items ++ record { object = c.entry.result.0; content = h } ∷ []) c.none.ensures
    ∙ ap (λ l. l ++ without_content c.entry.result ∷ []) c.rows.invariant
    ∙ rows_more c.args.spec.now.entries c.rows.place c.entry.result c.entry.ensures

pub invariant_of-result : goal.invariant_of-result
invariant_of-result c =
    rows_whole c.args.spec.now.entries c.rows.place c.rows.rows.items (omega (
      arith,
      c.rows-test.false,
      c.len-place-end.ensures.count,
    )) c.len-place-end.ensures.ascending c.rows.invariant
