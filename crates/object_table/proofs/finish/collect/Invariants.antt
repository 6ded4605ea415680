use Rattle.std.proofs.Common.{◌≡◌, ◌-◌, ◌≤◌}
use Rattle.std.specs.Mem.Slots.{slots_items, slots_filled, slots_len}
use Rattle.std.specs.Vec.{vec_len, vec_capacity}
use Rattle.object_table.proofs.Endings.{Out}
use Rattle.object_table.proofs.finish.collect.Given as goal

abbrev pub invariant-loop-i : goal.invariant-loop-i
invariant-loop-i l =
    (l.i ≤ l.count) × Out (slots_filled l.closed.slots) (slots_len l.closed.slots) (slots_items l.closed.slots) l.slots.items l.i
    × (slots_items l.closed.slots ≡ slots_items l.initial.closed.slots) × (slots_len l.closed.slots ≡ slots_len l.initial.closed.slots)
    × (vec_len l.slots ≡ l.i) × (l.count ≤ vec_capacity l.slots)

abbrev pub decreases-loop-i : goal.decreases-loop-i
decreases-loop-i l = l.count - l.i
