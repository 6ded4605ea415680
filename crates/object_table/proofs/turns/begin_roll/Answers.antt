use Rattle.std.proofs.Common.{◌<◌, ◌+◌, length, ◌∙◌, subst, arith}
use Rattle.object_table.proofs.Touching.{passed_same}
use Rattle.object_table.proofs.Leaving.{rests_on, was_busy}
use Rattle.object_table.proofs.RollCalls.{roll_begun}
use Rattle.object_table.proofs.turns.begin_roll.Goals as goal

pub take_turn-requires-clause-table : goal.take_turn-requires-clause-table
take_turn-requires-clause-table c =
    let f = c.requires.fits in
    let deep = f.laid.deep in
    let place = f.place in
    (f.mark, omega (arith, deep, place))

pub take_turn-requires-clause-rests : goal.take_turn-requires-clause-rests
take_turn-requires-clause-rests c = let r = c.requires.rests in (r.holds, r.idle)

pub take_turn-requires-clause-ready : goal.take_turn-requires-clause-ready
take_turn-requires-clause-ready c = λ e.
    let t = c.args.task.now in
    let s = passed_same t.touched t.seat.me.0 in
    subst (λ k. 0 < k) (λ i. s.tickets i + length (s.notes i)) (c.requires.ready (s.live ∙ e))

pub returns-clause-got : goal.returns-clause-got
returns-clause-got c =
    let f = c.requires.fits in
    roll_begun c.args.words.now.table_id.slots c.args.place _ c.args.task.now c.requires.rests c.take_turn.new.seat c.take_turn.result f.laid.deep f.place
    c.take_turn.ensures.got

pub returns-clause-over : goal.returns-clause-over
returns-clause-over c = rests_on c.args.task.now c.requires.rests c.take_turn.new.seat c.args.place c.take_turn.result c.take_turn.ensures.busy

pub returns-clause-busy : goal.returns-clause-busy
returns-clause-busy c = was_busy c.args.task.now c.requires.rests c.take_turn.new.seat c.args.place c.take_turn.result c.take_turn.ensures.busy
