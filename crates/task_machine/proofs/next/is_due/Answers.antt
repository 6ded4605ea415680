use Rattle.std.proofs.Common.{sym, ◌∙◌}
use Rattle.task_machine.proofs.Searching.{mark_missing, mark_at}
use Rattle.task_machine.proofs.next.is_due.Goals as goal

pub returns-in-None : goal.returns-in-None
returns-in-None c = sym (mark_missing c.args.object.0 c.args.execution.now.rows c.args.due.now (sym c.row_of.ensures ∙ c.in-None.is))

pub returns-in-Some : goal.returns-in-Some
returns-in-Some c =
    c.mark.ensures ∙ sym (mark_at c.args.object.0 c.args.execution.now.rows c.args.due.now c.in-Some.place (sym c.row_of.ensures ∙ c.in-Some.is))
