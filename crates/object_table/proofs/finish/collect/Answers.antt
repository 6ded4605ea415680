use Rattle.std.proofs.Common.{◌≡◌, ◌<◌, ◌+◌, refl, sym, ap, ◌∙◌, subst, take, arith}
use Rattle.std.specs.Mem.Slots.{slots_items, slots_filled, slots_len}
use Rattle.object_table.proofs.Endings.{Out, one_out}
use Rattle.object_table.proofs.finish.collect.Goals as goal

pub loop-i-preserved : goal.loop-i-preserved
loop-i-preserved c =
    let v = c.loop-i.invariant in
    let i = c.loop-i.i in
    let lt : i < c.args.count = omega (arith, c.loop-i-test.true) in
    let now = c.take-slot.new.self.slots in
    let xs = slots_items c.loop-i.closed.slots in
    let ys = c.add.new.slots.items in
    let o = c.take-slot.ensures.others in
    let out = one_out (slots_filled c.loop-i.closed.slots) (slots_filled now) (slots_len c.loop-i.closed.slots) xs c.loop-i.slots.items ys i (i + 1)
    c.take-slot.result v.1 refl o.1 c.take-slot.ensures.value c.add.ensures.items in (
      omega (arith, lt),
      subst (λ n. Out (slots_filled now) n (slots_items now) ys (i + 1)) (sym o.2)
          (subst (λ zs. Out (slots_filled now) (slots_len c.loop-i.closed.slots) zs ys (i + 1)) (sym o.0) out),
      o.0 ∙ v.2,
      o.2 ∙ v.3,
      c.add.ensures.len ∙ ap (λ n. n + 1) v.4,
      omega (arith, v.5, c.add.ensures.capacity),
    )

pub returns-clause-items : goal.returns-clause-items
returns-clause-items c =
    let v = c.loop-i.invariant in
    let end : c.loop-i.i ≡ c.args.count = omega (arith, v.0, c.loop-i-test.false) in
    v.1.are ∙ λ i. take (end i) (v.2 i)
