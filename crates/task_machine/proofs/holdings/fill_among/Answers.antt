use Rattle.std.proofs.Common.{Some, refl, sym, ap, ◌∙◌, slice_set, slice_index_or}
use Rattle.task_machine.proofs.Rows.{row_found, missing_same, ascend_set}
use Rattle.task_machine.proofs.holdings.fill_among.Goals as goal

pub returns-in-None-clause-rows : goal.returns-in-None-clause-rows
returns-in-None-clause-rows c =
    missing_same c.args.object (Some c.args.content) c.args.rows.now (sym c.in-None.is ∙ c.place_near.ensures.row)

pub returns-in-Some-clause-rows : goal.returns-in-Some-clause-rows
returns-in-Some-clause-rows c =
    let row = row_found c.args.object c.args.rows.now c.in-Some.place (sym c.in-Some.is ∙ c.place_near.ensures.row) in
    let d = c.index-rows-place.result in
    ap (λ h. slice_set c.args.rows.now c.in-Some.place (record {
      object = (slice_index_or c.args.rows.now c.in-Some.place d).object;
      content = h;
    })) c.fill.ensures
    ∙ row.filled d (Some c.args.content)

pub returns-in-Some-clause-ascend : goal.returns-in-Some-clause-ascend
returns-in-Some-clause-ascend c =
    let row = row_found c.args.object c.args.rows.now c.in-Some.place (sym c.in-Some.is ∙ c.place_near.ensures.row) in
    ascend_set c.args.rows.now c.in-Some.place _ c.index-rows-place.result row.within c.requires refl
