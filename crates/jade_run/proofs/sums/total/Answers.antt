use Rattle.std.proofs.Common.{◌≤◌, arith, length, List, subst, sym, ap}
use Rattle.std.specs.Prelude.{ℤ}
use Rattle.std.proofs.lemmas.Int.{ints, to_z-of_z}
use Rattle.jade_run.proofs.Totals.{cells_more, cells_within, sum_more}
use Rattle.jade_run.proofs.sums.total.Goals as goal

pub sum_of-total-requires : goal.sum_of-total-requires
sum_of-total-requires c =
    let within = cells_within c.args.objects.now c.loop-place.place c.at.result.now 1048576 c.at.ensures c.requires in
    let P : List ℤ → Type 0 = λ y. length y ≤ 1048576 in
    let short : length c.at.result.now ≤ 1048576 = omega (arith, within) in
    subst P (sym c.as_slice.ensures) short

pub overflow_add-total : goal.overflow_add-total
overflow_add-total c =
    let within = cells_within c.args.objects.now c.loop-place.place c.at.result.now 1048576 c.at.ensures c.requires in
    let same = ap (λ (y : List ℤ). length y) c.as_slice.ensures in
    omega (arith, ints, within, same)

pub loop-place-preserved : goal.loop-place-preserved
loop-place-preserved c =
    let within = cells_within c.args.objects.now c.loop-place.place c.at.result.now 1048576 c.at.ensures c.requires in
    let more = cells_more c.args.objects.now c.loop-place.place c.at.result.now c.at.ensures in
    let added = sum_more c.args.objects.now c.loop-place.place c.at.result.now c.at.ensures in
    let same = ap (λ (y : List ℤ). length y) c.as_slice.ensures in
    (grind (arith, ints, to_z-of_z), omega (arith, ints), omega (arith, ints))
