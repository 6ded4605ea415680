use Rattle.std.proofs.Common.{◌≡◌, ◌+◌, ◌-◌, ◌<◌, length, ap, ◌∙◌, arith, rules, w64, slice_set, length-set}
use mir.Val.{SFits}
use Rattle.std.proofs.lemmas.Int.{to_z-of_z}
use Rattle.task_machine.specs.Stages.{slots_of}
use Rattle.task_machine.proofs.Filling.{one_input}
use Rattle.task_machine.proofs.slots.give_inputs.Goals as goal

pub inputs-preserved : goal.inputs-preserved
inputs-preserved c =
    let zs = c.args.numbers.now in
    let i = c.inputs.left - 1 in
    let t = length zs - i - 1 in
    let lt : i < length zs = omega (arith, c.inputs.invariant.within, c.inputs-test.true) in
    let next : i + 1 ≡ c.inputs.left = omega (arith, c.inputs-test.true) in
    let at : t ≡ length zs - c.inputs.left = omega (arith, c.inputs.invariant.within, c.inputs-test.true) in
    let room : t < length c.inputs.slots.items = omega (arith, c.requires.room, c.inputs.invariant.long, c.inputs.invariant.within, c.inputs-test.true) in
    let fits : SFits w64 c.number_at-number.result = search (rules, c.number_at-number.type_inv) in
    record {
      filled =
          ap (λ z. slots_of (slice_set c.inputs.slots.items t z)) (to_z-of_z w64 c.number_at-number.result fits ∙ c.number_at-number.ensures)
          ∙ one_input c.inputs.slots.items zs i c.inputs.left t next lt at room c.inputs.invariant.filled;
      long = length-set c.inputs.slots.items t _ ∙ c.inputs.invariant.long;
      within = omega (arith, c.inputs.invariant.within);
    }
