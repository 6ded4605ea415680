use Rattle.std.proofs.Common.{◌≡◌, ◌+◌, sym, ap, ◌∙◌, Some, arith}
use Rattle.std.proofs.lemmas.Option.{same_Some}
use Rattle.jade_base.specs.declared.place.ObjectId.{ObjectId}
use Rattle.task_machine.proofs.Halving.{row_absent, row_object, objects_end}
use Rattle.task_machine.proofs.Rows.{row_here}
use Rattle.task_machine.proofs.Searching.{rows_ascend}
use Rattle.task_machine.proofs.holdings.place_by_halves.Goals as goal
use Rattle.task_machine.proofs.holdings.place_by_halves.Goals.{else-place-rows-via-then-place-rows+else-rows-place, else-place-rows-via-else-place-rows}

pub returns-then-rows-place-clause-row : goal.returns-then-rows-place-clause-row
returns-then-rows-place-clause-row c =
    let place = c.place_from-place.result in
    let h = row_here c.args.object 0 c.args.rows.now place c.index-rows-place.result c.requires c.if-place-rows.true c.if-rows-place.true in
    let z : 0 + place ≡ place = omega arith in
    sym (h ∙ ap Some z)

pub returns-clause-row : goal.returns-clause-row
returns-clause-row c =
    let rs = c.args.rows.now in
    let place = c.place_from-place.result in
    sym (row_absent c.args.object rs place (rows_ascend rs c.requires) c.place_from-place.ensures (elim c.else-place-rows.branch [
      | else-place-rows-via-then-place-rows+else-rows-place w ↦ λ x h q.
          w.if-rows-place.false (ap (λ (y : ObjectId). y.0) (same_Some _ x (sym (row_object rs place w.index-rows-place.result w.if-place-rows.true) ∙ h)) ∙ q)
      | else-place-rows-via-else-place-rows w ↦ λ x h q. objects_end rs place x (omega (arith, w.if-place-rows.false)) h
    ]))
