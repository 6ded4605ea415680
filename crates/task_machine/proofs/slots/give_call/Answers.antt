use Rattle.std.proofs.Common.{◌≡◌, ◌+◌, ◌-◌, ◌<◌, length, ap, ◌∙◌, arith, rules, w64, slice_set, length-set}
use mir.Val.{SFits}
use Rattle.std.proofs.lemmas.Int.{to_z-of_z}
use Rattle.task_machine.specs.Stages.{slots_of}
use Rattle.task_machine.proofs.Filling.{one_passed}
use Rattle.task_machine.proofs.slots.give_call.Goals as goal

pub call-preserved : goal.call-preserved
call-preserved c =
    let lt : c.call.left - 1 < length c.args.call.now = omega (arith, c.call.invariant.within, c.call-test.true) in
    let next : (c.call.left - 1) + 1 ≡ c.call.left = omega (arith, c.call-test.true) in
    let t = c.args.inputs + length c.args.call.now - (c.call.left - 1) - 1 in
    let room : t < length c.call.slots.items = omega (arith, c.requires.room, c.call.invariant.long, c.call.invariant.within, c.call-test.true) in
    let fits : SFits w64 c.worth.result = search (rules, c.worth.type_inv) in
    record {
      filled = λ zs long given.
          let at : t ≡ length zs + (length c.args.call.now - c.call.left) = omega (arith, long, c.call.invariant.within, c.call-test.true) in
          ap (λ z. slots_of (slice_set c.call.slots.items t z)) (to_z-of_z w64 c.worth.result fits ∙ c.worth.ensures)
          ∙ one_passed c.call.slots.items zs c.args.call.now _ (slots_of c.args.frame.now.slots.items) (c.call.left - 1) c.call.left t next lt at room
          (c.call.invariant.filled zs long given);
      long = length-set c.call.slots.items t _ ∙ c.call.invariant.long;
      within = omega (arith, c.call.invariant.within);
    }
