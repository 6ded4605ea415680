use Rattle.std.proofs.Common.{ap, ◌∙◌, ◌<◌, length, arith, w64}
use Rattle.std.specs.Prelude.{slice_set}
use Rattle.std.proofs.lemmas.Int.{to_z-of_z}
use Rattle.jade_meaning.specs.Serial.{with_cell}
use Rattle.jade_meaning.proofs.Cells.{put_in}
use Rattle.jade_meaning.proofs.run_state.Store.write.Goals as goal

pub returns-then-cell-len : goal.returns-then-cell-len
returns-then-cell-len c =
    let objects = c.self.inside.objects in
    let cells = c.index_mut.result.now in
    let lt : c.args.object < length objects.items = omega (arith, c.if-object-len.true, c.len.ensures, objects.ok.0) in
    put_in (λ v. v.items) objects.items c.args.object c.args.cell c.args.value cells _ lt c.index_mut.ensures.value
    (ap (λ z. slice_set cells.items c.args.cell z) (to_z-of_z w64 c.args.value c.ranges.value))
    ∙ ap (λ s. with_cell s c.args.object c.args.cell c.args.value) c.self.view_is
