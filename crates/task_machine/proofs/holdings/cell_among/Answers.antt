use Rattle.std.proofs.Common.{sym, ap, ◌∙◌}
use Rattle.task_machine.specs.steps.Holding.{cell_in}
use Rattle.task_machine.proofs.Rows.{row_found}
use Rattle.task_machine.proofs.holdings.cell_among.Goals as goal

pub returns : goal.returns
returns c =
    let row = row_found c.args._object c.args.rows.now c.args.row (sym c.requires.row) in
    c.cell.ensures ∙ sym (ap (λ w. cell_in w c.args.cell) (row.content c.index-rows-row.result))
