use Rattle.std.proofs.Common.{◌<◌, ◌∙◌, length, sym, subst}
use Rattle.task_machine.proofs.Rows.{row_found}
use Rattle.task_machine.proofs.holdings.Holdings.write.Goals as goal

pub write_among-requires-clause-within : goal.write_among-requires-clause-within
write_among-requires-clause-within c =
    subst (λ rs. c.args.row < length rs) (sym (c.as_mut_slice.ensures.value ∙ c.self.view_is)) ((row_found c.args.object _ c.args.row (sym c.requires)).within)
