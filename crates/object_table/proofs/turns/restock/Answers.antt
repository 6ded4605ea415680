use Rattle.std.proofs.Common.{◌∙◌}
use Rattle.object_table.specs.Tallies.{restocked}
use Rattle.object_table.specs.declared.slot.Slot.TheVariants as slot
use Rattle.object_table.proofs.RollCalls.{roll_may_lend, roll_lent, roll_placed}
use Rattle.object_table.proofs.turns.restock.Goals as goal

pub slot_mut-slot-requires : goal.slot_mut-slot-requires
slot_mut-slot-requires c = (c.begin_roll.ensures.mark ∙ c.requires.fits.mark, roll_may_lend c.in-Ok.ensures.got.1)

pub returns-then-not-restock_in-clause-unchanged : goal.returns-then-not-restock_in-clause-unchanged
returns-then-not-restock_in-clause-unchanged c =
    let got = c.in-Ok.ensures.got in
    c.desist_roll.ensures.after c.args.task.now got.0
    (roll_placed got.1 c.restock_in.new.slot (slot.Roll got.0)
    (c.restock_in.ensures.unchanged c.if-not-restock_in.true ∙ roll_lent got.1 c.slot_mut-slot.result.now c.slot_mut-slot.ensures.value))

pub returns-clause-answer : goal.returns-clause-answer
returns-clause-answer c =
    let got = c.in-Ok.ensures.got in
    let done = c.restock_in.ensures.done got.0 (roll_lent got.1 c.slot_mut-slot.result.now c.slot_mut-slot.ensures.value) c.if-not-restock_in.false in
    c.supply.ensures.done (record {
      before = c.args.task.now;
      roll = got.0;
      begun = roll_placed got.1 c.restock_in.new.slot (slot.Roll (restocked got.0)) done.0;
      live = c.requires.live;
      room = done.1;
    })
