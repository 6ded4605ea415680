use Rattle.std.proofs.Common.{refl}
use Rattle.object_table.proofs.Leaving.{object_lent, shift_ends, did_so}
use Rattle.object_table.proofs.turns.shift_at.Goals as goal

pub complete-requires-clause-ending : goal.complete-requires-clause-ending
complete-requires-clause-ending c =
    let f = c.requires.fits in
    let got = c.in-Ok.ensures.got in
    let g = object_lent c.args.words.now.table_id.slots c.args.object got.0 c.args.task.now c.begin.new.task got.1 c.args.words.now.key f.laid.deep f.object
    c.slot_mut-slot.result.now c.slot_mut-slot.ensures.value in
    shift_ends g.1 f.object c.requires.next (c.shift_in.ensures g.0 g.2)

pub returns-clause-answer : goal.returns-clause-answer
returns-clause-answer c =
    let f = c.requires.fits in
    let got = c.in-Ok.ensures.got in
    let g = object_lent c.args.words.now.table_id.slots c.args.object got.0 c.args.task.now c.begin.new.task got.1 c.args.words.now.key f.laid.deep f.object
    c.slot_mut-slot.result.now c.slot_mut-slot.ensures.value in
    did_so c.requires.next (c.complete.ensures.done (shift_ends g.1 f.object c.requires.next (c.shift_in.ensures g.0 g.2)) g.0 refl)
