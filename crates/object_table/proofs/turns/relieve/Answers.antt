use Rattle.std.proofs.Common.{◌+◌, List, ap, ◌∙◌}
use Rattle.task_roll.specs.declared.note.PartNote.{PartNote}
use Rattle.object_table.specs.Tallies.{received}
use Rattle.object_table.specs.declared.slot.Slot.TheVariants as slot
use Rattle.object_table.proofs.RollCalls.{roll_may_lend, roll_lent, may_relieve, relieved_rests, relieved_shown}
use Rattle.object_table.proofs.turns.relieve.Goals as goal

pub slot_mut-slot-requires : goal.slot_mut-slot-requires
slot_mut-slot-requires c = (c.requires.fits.mark, roll_may_lend c.requires.begun.2)

pub leave_turn-requires-clause-allowed : goal.leave_turn-requires-clause-allowed
leave_turn-requires-clause-allowed c =
    let words = c.args.words.now in
    let now = c.args.task.now in
    let b = c.requires.begun in
    may_relieve words.key (c.core_laws.ensures words.key) words.table_id.slots c.args.place c.requires.fits.place b.1 b.0 now b.2 b.3
    c.receive_in-last.new.slot
    (c.receive_in-last.ensures.done b.1 (roll_lent b.2 c.slot_mut-slot.result.now c.slot_mut-slot.ensures.value)
    ∙ ap (λ k. slot.Roll (received (now.tickets + k) now.notes b.1)) c.len.ensures.value)

pub returns-clause-rests : goal.returns-clause-rests
returns-clause-rests c =
    let words = c.args.words.now in
    let now = c.args.task.now in
    let b = c.requires.begun in
    relieved_rests words.key (c.core_laws.ensures words.key) words.table_id.slots c.args.place c.requires.fits.place b.1 b.0 now b.2 b.3
    c.receive_in-last.new.slot
    (c.receive_in-last.ensures.done b.1 (roll_lent b.2 c.slot_mut-slot.result.now c.slot_mut-slot.ensures.value)
    ∙ ap (λ k. slot.Roll (received (now.tickets + k) now.notes b.1)) c.len.ensures.value)
    _ c.leave_turn.new.seat c.receive_in-last.result c.either-task.result c.receive_in-last.ensures.last c.either-task.ensures
    (ap (λ (ns : List PartNote). record now { seat = c.leave_turn.new.seat; tickets = 0; notes = ns; over = c.either-task.result })
    c.receive_in-last.ensures.notes)
    c.leave_turn.ensures.done

pub returns-clause-done : goal.returns-clause-done
returns-clause-done c = λ before r b gone.
    let words = c.args.words.now in
    let now = c.args.task.now in
    relieved_shown words.key (c.core_laws.ensures words.key) words.table_id.slots c.args.place c.requires.fits.place r before now b gone
    c.receive_in-last.new.slot
    (c.receive_in-last.ensures.done r (roll_lent b c.slot_mut-slot.result.now c.slot_mut-slot.ensures.value)
    ∙ ap (λ k. slot.Roll (received (now.tickets + k) now.notes r)) c.len.ensures.value)
    (record now { seat = c.leave_turn.new.seat; tickets = 0; notes = c.receive_in-last.new.notes; over = c.either-task.result })
    c.leave_turn.new.seat c.receive_in-last.result c.either-task.result c.receive_in-last.ensures.last c.either-task.ensures
    (ap (λ (ns : List PartNote). record now { seat = c.leave_turn.new.seat; tickets = 0; notes = ns; over = c.either-task.result })
    c.receive_in-last.ensures.notes)
    c.leave_turn.ensures.done
