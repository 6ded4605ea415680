use Rattle.schedule_core.proofs.Rolls.{got, resign_step}
use Rattle.schedule_core.proofs.Filing.{files}
use Rattle.schedule_core.proofs.schedule.resign_in.Goals as goal

pub last_note-requires : goal.last_note-requires
last_note-requires c =
    c.requires.next c.take_out-seat.result (got c.args.roll.now.items c.args.place c.take_out-seat.result c.requires.within c.take_out-seat.ensures.row)

pub returns-clause-done : goal.returns-clause-done
returns-clause-done c =
    λ ss. let es = c.args.roll.now.items in
    let s = c.take_out-seat.result in
    let row = c.take_out-seat.ensures.row in
    let step = resign_step es c.take_out-seat.new.rows.items ss c.args.place s c.requires.within row
    (c.requires.next s (got es c.args.place s c.requires.within row)) c.take_out-seat.ensures.rest in
    files es c.take_out-seat.new.rows.items ss ss c.args.place s c.requires.within row step c.last_note.result c.args.notes.now.items
    c.push.new.notes.items c.last_note.ensures c.push.ensures.notes
