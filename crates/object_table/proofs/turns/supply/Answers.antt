use Rattle.std.proofs.Common.{refl, arith}
use Rattle.object_table.proofs.RollCalls.{may_supply, supplied_rests, supplied_shown}
use Rattle.object_table.proofs.turns.supply.Goals as goal

pub leave_turn-requires-clause-table : goal.leave_turn-requires-clause-table
leave_turn-requires-clause-table c =
    let f = c.requires.fits in
    let deep = f.laid.deep in
    let place = f.place in
    (f.mark, omega (arith, deep, place))

pub leave_turn-requires-clause-allowed : goal.leave_turn-requires-clause-allowed
leave_turn-requires-clause-allowed c =
    let words = c.args.words.now in
    may_supply words.key words.table_id.slots c.args.place c.requires.fits.place c.args.task.now c.requires.stocked

pub returns-clause-rests : goal.returns-clause-rests
returns-clause-rests c =
    let words = c.args.words.now in
    supplied_rests words.key words.table_id.slots c.args.place c.requires.fits.place c.args.task.now c.requires.stocked _ c.leave_turn.new.seat refl
    c.leave_turn.ensures.done

pub returns-clause-done : goal.returns-clause-done
returns-clause-done c = λ s.
    let words = c.args.words.now in
    supplied_shown words.key words.table_id.slots c.args.place c.requires.fits.place c.args.task.now s _ c.leave_turn.new.seat refl c.leave_turn.ensures.done
