use Rattle.std.proofs.Common.{None, refl, sym, ap, ◌∙◌, slice_set, slice_index_or}
use Rattle.task_machine.specs.steps.Holding.{contents_of}
use Rattle.task_machine.proofs.Rows.{row_missing, row_found, missing_same, none_taken, taken_row, ascend_set}
use Rattle.task_machine.proofs.holdings.take_among.Goals as goal

pub returns-in-None-clause-taken : goal.returns-in-None-clause-taken
returns-in-None-clause-taken c = sym (row_missing c.args.object c.args.rows.now (sym c.in-None.is ∙ c.place_near.ensures.row))

pub returns-in-None-clause-left : goal.returns-in-None-clause-left
returns-in-None-clause-left c =
    none_taken (contents_of c.args.rows.now) c.args.object (row_missing c.args.object c.args.rows.now (sym c.in-None.is ∙ c.place_near.ensures.row))

pub returns-in-None-clause-rows : goal.returns-in-None-clause-rows
returns-in-None-clause-rows c = missing_same c.args.object None c.args.rows.now (sym c.in-None.is ∙ c.place_near.ensures.row)

pub returns-in-Some-clause-taken : goal.returns-in-Some-clause-taken
returns-in-Some-clause-taken c =
    let row = row_found c.args.object c.args.rows.now c.in-Some.place (sym c.in-Some.is ∙ c.place_near.ensures.row) in
    c.take.ensures.taken ∙ sym (row.content c.index-rows-place.result)

pub returns-in-Some-clause-left : goal.returns-in-Some-clause-left
returns-in-Some-clause-left c =
    let row = row_found c.args.object c.args.rows.now c.in-Some.place (sym c.in-Some.is ∙ c.place_near.ensures.row) in
    ap (λ w. contents_of (slice_set c.args.rows.now c.in-Some.place (record {
      object =
          (slice_index_or c.args.rows.now c.in-Some.place c.index-rows-place.result).object;
      content = w;
    })))
    c.take.ensures.left
    ∙ taken_row (contents_of c.args.rows.now) _ c.args.object (row.set _ (row.object c.index-rows-place.result))

pub returns-in-Some-clause-rows : goal.returns-in-Some-clause-rows
returns-in-Some-clause-rows c =
    let row = row_found c.args.object c.args.rows.now c.in-Some.place (sym c.in-Some.is ∙ c.place_near.ensures.row) in
    let d = c.index-rows-place.result in
    ap (λ h. slice_set c.args.rows.now c.in-Some.place (record {
      object = (slice_index_or c.args.rows.now c.in-Some.place d).object;
      content = h;
    })) c.take.ensures.left
    ∙ row.filled d None

pub returns-in-Some-clause-ascend : goal.returns-in-Some-clause-ascend
returns-in-Some-clause-ascend c =
    let row = row_found c.args.object c.args.rows.now c.in-Some.place (sym c.in-Some.is ∙ c.place_near.ensures.row) in
    ascend_set c.args.rows.now c.in-Some.place _ c.index-rows-place.result row.within c.requires refl
