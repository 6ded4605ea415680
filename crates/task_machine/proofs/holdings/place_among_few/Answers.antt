use Rattle.std.proofs.Common.{◌≡◌, ◌+◌, suc, sym, ap, ◌∙◌, drop, arith}
use Rattle.std.proofs.lemmas.List.{drop_all}
use Rattle.task_machine.specs.steps.Holding.{row_from}
use Rattle.task_machine.proofs.Rows.{row_at, row_behind}
use Rattle.task_machine.proofs.holdings.place_among_few.Goals as goal

pub returns-then-rows-place-clause-row : goal.returns-then-rows-place-clause-row
returns-then-rows-place-clause-row c =
    let rs = c.args.rows.now in
    sym (c.few.invariant ∙ row_at c.args.object c.few.place rs c.few.place c.index-rows-place.result c.few-test.true c.if-rows-place.true)

pub few-preserved : goal.few-preserved
few-preserved c =
    let rs = c.args.rows.now in
    let z : suc c.few.place ≡ c.few.place + 1 = omega arith in
    c.few.invariant ∙ row_behind c.args.object c.few.place rs c.few.place c.index-rows-place.result c.few-test.true c.if-rows-place.false
    ∙ ap (λ n. row_from c.args.object n (drop n rs)) z

pub returns-clause-row : goal.returns-clause-row
returns-clause-row c =
    let rs = c.args.rows.now in
    sym (c.few.invariant ∙ ap (row_from c.args.object c.few.place) (drop_all c.few.place rs (omega (arith, c.few-test.false))))
