use Rattle.std.proofs.Common.{sym, ap, ◌∙◌}
use Rattle.std.specs.Prelude.{is_some, not}
use Rattle.jade_base.specs.Rights.{is_there, mode_of}
use Rattle.jade_meaning.specs.Specification.{commuting_on}
use Rattle.task_machine.specs.Stages.{rights_at}
use Rattle.task_machine.specs.Left.{has_mode, is_own}
use Rattle.task_machine.specs.Machines.{due_in}
use Rattle.task_machine.proofs.Commuting.{other_than_own}
use Rattle.task_machine.proofs.Searching.{mark_placed, not_taken, taken_unless}
use Rattle.task_machine.proofs.next.is_taken_first.Goals as goal

pub returns-then-not-mark : goal.returns-then-not-mark
returns-then-not-mark c =
    let e = c.args.execution.now in
    let o = c.args.object.0 in
    not_taken (is_own (commuting_on (rights_at e.stage)) o) (due_in e.rows c.args.due.now o) (has_mode (rights_at e.stage) o)
    (mark_placed e.rows c.args.due.now c.args.place c.args.object c.rows-count.ensures.ascend c.requires ∙ sym c.mark.ensures ∙ c.if-not-mark.true)

pub returns-then-is_there : goal.returns-then-is_there
returns-then-is_there c =
    let e = c.args.execution.now in
    let o = c.args.object.0 in
    ap not c.is_own.ensures
    ∙ taken_unless (is_own (commuting_on (rights_at e.stage)) o) (due_in e.rows c.args.due.now o) (has_mode (rights_at e.stage) o)
    (mark_placed e.rows c.args.due.now c.args.place c.args.object c.rows-count.ensures.ascend c.requires ∙ sym c.mark.ensures ∙ c.if-not-mark.false)
    (sym (ap is_some (c.mode_of.ensures ∙ ap mode_of c.rights_in_row-rights.ensures)) ∙ c.is_none.ensures ∙ ap not c.if-is_none.false)

pub returns-else-is_there : goal.returns-else-is_there
returns-else-is_there c =
    let e = c.args.execution.now in
    let o = c.args.object.0 in
    ap not (sym (other_than_own (rights_at e.stage) o
    (ap (λ a. is_there a.commutes) (sym c.rights_in_row-rights.ensures) ∙ sym c.is_there.ensures ∙ c.if-is_there.false)))
    ∙ taken_unless (is_own (commuting_on (rights_at e.stage)) o) (due_in e.rows c.args.due.now o) (has_mode (rights_at e.stage) o)
    (mark_placed e.rows c.args.due.now c.args.place c.args.object c.rows-count.ensures.ascend c.requires ∙ sym c.mark.ensures ∙ c.if-not-mark.false)
    (sym (ap is_some (c.mode_of.ensures ∙ ap mode_of c.rights_in_row-rights.ensures)) ∙ c.is_none.ensures ∙ ap not c.if-is_none.false)
