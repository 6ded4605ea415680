use Rattle.std.proofs.Common.{◌≡◌, length, sym, subst, ◌∙◌}
use Rattle.jade_base.specs.Specification.{IsAscending}
use Rattle.task_machine.specs.Machines.{candidates}
use Rattle.task_machine.specs.steps.Searching.{ObjectsAscend}
use Rattle.task_machine.proofs.Searching.{entries_ascend, rows_ascend, rows_count}
use Rattle.task_machine.proofs.next.count.Goals as goal

pub returns-in-Creating-clause-ascend : goal.returns-in-Creating-clause-ascend
returns-in-Creating-clause-ascend c =
    subst (λ p. ObjectsAscend (candidates p c.args.execution.now)) (sym c.in-Creating.is)
    (entries_ascend c.args.execution.now.stage.child.entries (subst (λ s. IsAscending s.entries) c.child_spec.ensures c.len.ensures.ascending))

pub returns-in-Starting-clause-count : goal.returns-in-Starting-clause-count
returns-in-Starting-clause-count c =
    subst (λ p. c.rows.result ≡ length (candidates p c.args.execution.now)) (sym c.in-Starting.is)
    (c.rows.ensures.count ∙ rows_count c.args.execution.now.rows)

pub returns-in-Starting-clause-ascend : goal.returns-in-Starting-clause-ascend
returns-in-Starting-clause-ascend c =
    subst (λ p. ObjectsAscend (candidates p c.args.execution.now)) (sym c.in-Starting.is) (rows_ascend c.args.execution.now.rows c.rows.ensures.ascend)

pub returns-in-Taking-clause-count : goal.returns-in-Taking-clause-count
returns-in-Taking-clause-count c =
    subst (λ p. c.rows-in-Taking.result ≡ length (candidates p c.args.execution.now)) (sym c.in-Taking.is)
    (c.rows-in-Taking.ensures.count ∙ rows_count c.args.execution.now.rows)

pub returns-in-Taking-clause-ascend : goal.returns-in-Taking-clause-ascend
returns-in-Taking-clause-ascend c =
    subst (λ p. ObjectsAscend (candidates p c.args.execution.now)) (sym c.in-Taking.is) (rows_ascend c.args.execution.now.rows c.rows-in-Taking.ensures.ascend)

pub returns-in-Going-clause-count : goal.returns-in-Going-clause-count
returns-in-Going-clause-count c =
    subst (λ p. c.rows-in-Going.result ≡ length (candidates p c.args.execution.now)) (sym c.in-Going.is)
    (c.rows-in-Going.ensures.count ∙ rows_count c.args.execution.now.rows)

pub returns-in-Going-clause-ascend : goal.returns-in-Going-clause-ascend
returns-in-Going-clause-ascend c =
    subst (λ p. ObjectsAscend (candidates p c.args.execution.now)) (sym c.in-Going.is) (rows_ascend c.args.execution.now.rows c.rows-in-Going.ensures.ascend)

pub returns-in-Changing-clause-count : goal.returns-in-Changing-clause-count
returns-in-Changing-clause-count c =
    subst (λ p. c.rows-in-Changing.result ≡ length (candidates p c.args.execution.now)) (sym c.in-Changing.is)
    (c.rows-in-Changing.ensures.count ∙ rows_count c.args.execution.now.rows)

pub returns-in-Changing-clause-ascend : goal.returns-in-Changing-clause-ascend
returns-in-Changing-clause-ascend c =
    subst (λ p. ObjectsAscend (candidates p c.args.execution.now)) (sym c.in-Changing.is)
    (rows_ascend c.args.execution.now.rows c.rows-in-Changing.ensures.ascend)

pub returns-in-Ending-clause-count : goal.returns-in-Ending-clause-count
returns-in-Ending-clause-count c =
    subst (λ p. c.rows-in-Ending.result ≡ length (candidates p c.args.execution.now)) (sym c.in-Ending.is)
    (c.rows-in-Ending.ensures.count ∙ rows_count c.args.execution.now.rows)

pub returns-in-Ending-clause-ascend : goal.returns-in-Ending-clause-ascend
returns-in-Ending-clause-ascend c =
    subst (λ p. ObjectsAscend (candidates p c.args.execution.now)) (sym c.in-Ending.is) (rows_ascend c.args.execution.now.rows c.rows-in-Ending.ensures.ascend)
