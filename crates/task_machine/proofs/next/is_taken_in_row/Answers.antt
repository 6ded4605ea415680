use Rattle.std.proofs.Common.{sym, ap, ◌∙◌}
use Rattle.std.specs.Prelude.{is_some, if◌then◌else◌, false}
use Rattle.jade_base.specs.Rights.{mode_of}
use Rattle.task_machine.specs.Stages.{rights_at}
use Rattle.task_machine.specs.Left.{has_mode}
use Rattle.task_machine.proofs.Searching.{mark_placed}
use Rattle.task_machine.proofs.next.is_taken_in_row.Goals as goal

pub returns-then-mark : goal.returns-then-mark
returns-then-mark c =
    let e = c.args.execution.now in
    let due = mark_placed e.rows c.args.due.now c.args.place c.args.object c.rows-count.ensures.ascend c.requires ∙ sym c.mark.ensures ∙ c.if-mark.true in
    c.is_some.ensures ∙ ap is_some (c.mode_of.ensures ∙ ap mode_of c.rights_in_row.ensures)
    ∙ sym (ap (λ b. if b then has_mode (rights_at e.stage) c.args.object.0 else false) due)

pub returns-else-mark : goal.returns-else-mark
returns-else-mark c =
    let e = c.args.execution.now in
    let due = mark_placed e.rows c.args.due.now c.args.place c.args.object c.rows-count.ensures.ascend c.requires ∙ sym c.mark.ensures ∙ c.if-mark.false in
    sym (ap (λ b. if b then has_mode (rights_at e.stage) c.args.object.0 else false) due)
