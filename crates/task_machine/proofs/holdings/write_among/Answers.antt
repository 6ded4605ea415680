use Rattle.std.proofs.Common.{refl, sym, subst, w64, slice_index_or}
use Rattle.std.proofs.lemmas.Int.{to_z-of_z}
use Rattle.task_machine.specs.Playing.{writable}
use Rattle.task_machine.specs.steps.Holding.{contents_of, WrittenIn}
use Rattle.task_machine.proofs.Rows.{row_found, written_row, ascend_set, objects_set}
use Rattle.task_machine.proofs.holdings.write_among.Goals as goal

pub returns-clause-written : goal.returns-clause-written
returns-clause-written c =
    let row = row_found c.args._object c.args.rows.now c.args.row (sym c.requires.row) in
    let k = contents_of c.args.rows.now in
    written_row (writable (k c.args._object)) k _ c.args._object c.args.cell c.args.number c.write.result c.write.new.self
    (row.set _ (row.object c.index-rows-row.result))
    (subst (λ w. WrittenIn w c.args.cell c.args.number c.write.result c.write.new.self) (sym (row.content c.index-rows-row.result))
    (subst (λ z. WrittenIn (slice_index_or c.args.rows.now c.args.row c.index-rows-row.result).content c.args.cell z c.write.result
    c.write.new.self)
    (to_z-of_z w64 c.args.number c.ranges.number) c.write.ensures))

pub returns-clause-ascend : goal.returns-clause-ascend
returns-clause-ascend c =
    let row = row_found c.args._object c.args.rows.now c.args.row (sym c.requires.row) in
    ascend_set c.args.rows.now c.args.row _ c.index-rows-row.result row.within c.requires.ascend refl

pub returns-clause-objects : goal.returns-clause-objects
returns-clause-objects c =
    let row = row_found c.args._object c.args.rows.now c.args.row (sym c.requires.row) in
    objects_set c.args.rows.now c.args.row _ c.index-rows-row.result row.within refl
