use Rattle.std.proofs.Common.{◌<◌, ◌∙◌, length, sym, subst}
use Rattle.task_machine.proofs.Rows.{row_found}
use Rattle.task_machine.proofs.holdings.Holdings.cell.Goals as goal

pub cell_among-requires-clause-within : goal.cell_among-requires-clause-within
cell_among-requires-clause-within c =
    subst (λ rs. c.args.row < length rs) (sym (c.as_slice.ensures.value ∙ c.self.view_is)) ((row_found c.args._object _ c.args.row (sym c.requires)).within)
