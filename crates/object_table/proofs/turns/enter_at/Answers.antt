use Rattle.std.proofs.Common.{refl}
use Rattle.object_table.proofs.Leaving.{object_lent, enter_ends, as_found, did_so}
use Rattle.object_table.specs.declared.slot.Slot.TheVariants.{Object}
use Rattle.object_table.proofs.turns.enter_at.Goals as goal

pub complete-requires-clause-ending : goal.complete-requires-clause-ending
complete-requires-clause-ending c =
    let f = c.requires.fits in
    let got = c.in-Ok.ensures.got in
    let g = object_lent c.args.words.now.table_id.slots c.args.object got.0 c.args.task.now c.begin.new.task got.1 c.args.words.now.key f.laid.deep f.object
    c.slot_mut-slot.result.now c.slot_mut-slot.ensures.value in
    enter_ends g.1 f.object c.requires.next c.in_ok-child.ensures (c.in-Ok-enter_to.ensures g.0 g.2)

pub returns-in-Ok-enter_to-clause-answer : goal.returns-in-Ok-enter_to-clause-answer
returns-in-Ok-enter_to-clause-answer c =
    let f = c.requires.fits in
    let got = c.in-Ok.ensures.got in
    let g = object_lent c.args.words.now.table_id.slots c.args.object got.0 c.args.task.now c.begin.new.task got.1 c.args.words.now.key f.laid.deep f.object
    c.slot_mut-slot.result.now c.slot_mut-slot.ensures.value in
    did_so c.requires.next (c.complete.ensures.done (enter_ends g.1 f.object c.requires.next c.in_ok-child.ensures (c.in-Ok-enter_to.ensures g.0 g.2)) g.0 refl)

pub returns-in-Err-enter_to-clause-unchanged : goal.returns-in-Err-enter_to-clause-unchanged
returns-in-Err-enter_to-clause-unchanged c =
    let f = c.requires.fits in
    let got = c.in-Ok.ensures.got in
    let g = object_lent c.args.words.now.table_id.slots c.args.object got.0 c.args.task.now c.begin.new.task got.1 c.args.words.now.key f.laid.deep f.object
    c.slot_mut-slot.result.now c.slot_mut-slot.ensures.value in
    (c.desist.ensures.after c.args.task.now (Object g.0) (as_found g.1 (c.in-Err-enter_to.ensures g.0 g.2))).unchanged
