use Rattle.std.proofs.Common.{◌≡◌, ◌+◌, sym, ap, ◌∙◌, Some, arith}
use Rattle.task_machine.proofs.Rows.{row_here}
use Rattle.task_machine.proofs.holdings.place_of.Goals as goal

pub returns-then-rows-object-clause-row : goal.returns-then-rows-object-clause-row
returns-then-rows-object-clause-row c =
    let h = row_here c.args.object 0 c.args.rows.now c.args.object c.index-rows-object.result c.requires c.if-object-rows.true c.if-rows-object.true in
    let z : 0 + c.args.object ≡ c.args.object = omega arith in
    sym (h ∙ ap Some z)
