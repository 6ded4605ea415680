use Rattle.std.proofs.Common.{◌≡◌, ◌+◌, sym, ap, ◌∙◌, Some, arith}
use Rattle.task_machine.proofs.Rows.{row_here}
use Rattle.task_machine.proofs.holdings.place_near.Goals as goal

pub returns-then-rows-near-clause-row : goal.returns-then-rows-near-clause-row
returns-then-rows-near-clause-row c =
    let h = row_here c.args.object 0 c.args.rows.now c.args.near c.index-rows-near.result c.requires c.if-near-rows.true c.if-rows-near.true in
    let z : 0 + c.args.near ≡ c.args.near = omega arith in
    sym (h ∙ ap Some z)
