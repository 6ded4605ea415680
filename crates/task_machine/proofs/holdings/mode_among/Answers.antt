use Rattle.std.proofs.Common.{sym, ap, ◌∙◌}
use Rattle.task_machine.specs.Telling.{mode_held}
use Rattle.task_machine.proofs.Rows.{row_missing, row_found}
use Rattle.task_machine.proofs.holdings.mode_among.Goals as goal

pub returns-in-None : goal.returns-in-None
returns-in-None c = sym (ap mode_held (row_missing c.args.object c.args.rows.now (sym c.in-None.is ∙ c.place_of.ensures.row)))

pub returns-in-Some : goal.returns-in-Some
returns-in-Some c =
    let row = row_found c.args.object c.args.rows.now c.in-Some.place (sym c.in-Some.is ∙ c.place_of.ensures.row) in
    c.mode.ensures ∙ sym (ap mode_held (row.content c.index-rows-place.result))
