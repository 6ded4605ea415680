use Rattle.std.proofs.Common.{◌≡◌, ◌-◌, take, ap, sym, ◌∙◌, subst, arith}
use mathlib.Core.Option.{some}
use lib.ListN.{get_elem?}
use Rattle.std.specs.Mem.Slots.{slots_items}
use Rattle.object_table.specs.Views.{count_of}
use Rattle.object_table.proofs.Endings.{last_slots}
use Rattle.object_table.proofs.Touching.{passed_same}
use Rattle.object_table.proofs.finish.close.Goals as goal

pub returns : goal.returns
returns c =
    let key = c.args.table.shared.key in
    let t = c.args.task in
    let values = c.close_with-closed.ensures.values in
    let xs = slots_items c.close_with-closed.result.slots in
    let count = c.slot_count-count.result - 1 in
    let roll = c.take-roll.result in
    let deep = c.requires.laid.deep in
    let many = c.slot_count-count.ensures in
    let is : count ≡ count_of key = omega (arith, deep, many) in
    let here : get_elem? xs count ≡ some roll = subst (λ zs. get_elem? zs count ≡ some roll) c.collect.ensures.same.0 c.take-roll.ensures.value in
    last_slots key t.seat.id t.seat.me.0 (sym (passed_same t.touched t.seat.me.0).over ∙ c.requires.over) _ xs values.2 c.collect.new.slots.items roll
    (c.collect.ensures.items ∙ ap (λ k. take k xs) is) (subst (λ k. get_elem? xs k ≡ some roll) is here)
