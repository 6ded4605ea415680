use Rattle.std.proofs.Common.{◌≡◌, slice_get, Some, sym, ap, subst, ◌∙◌}
use Rattle.task_machine.specs.Executions.{objects_in}
use Rattle.task_machine.specs.Telling.{mode_held}
use Rattle.task_machine.specs.declared.holdings.Row.{Row}
use Rattle.task_machine.specs.steps.Holding.{contents_of}
use Rattle.task_machine.proofs.Rows.{row_found}
use Rattle.task_machine.proofs.Searching.{row_placed}
use Rattle.task_machine.proofs.holdings.Holdings.mode_at.Goals as goal

pub returns : goal.returns
returns c =
    let rows = c.self.inside.rows.items in
    let o = c.args._object in
    let placed = subst (λ rs. slice_get (objects_in rs) c.args.place ≡ Some o) (sym c.self.view_is) c.requires in
    let row = row_found o.0 rows c.args.place (sym (row_placed rows c.args.place o c.self.invariant placed)) in
    c.mode.ensures ∙ ap (λ (r : Row). mode_held r.content) c.index.ensures ∙ sym (ap mode_held (row.content c.index.result.now))
    ∙ ap (λ rs. mode_held (contents_of rs o.0)) c.self.view_is
