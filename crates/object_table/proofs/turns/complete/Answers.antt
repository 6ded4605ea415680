use Rattle.object_table.proofs.Leaving.{may_end, ended_rests, ended}
use Rattle.object_table.proofs.turns.complete.Goals as goal

pub leave_turn-requires-clause-allowed : goal.leave_turn-requires-clause-allowed
leave_turn-requires-clause-allowed c =
    let words = c.args.words.now in
    may_end words.key (c.core_laws.ensures words.key) words.table_id.slots c.args.object c.args.task.now c.requires.ending

pub returns-clause-rests : goal.returns-clause-rests
returns-clause-rests c =
    let words = c.args.words.now in
    let s = c.settle.ensures in
    ended_rests words.key (c.core_laws.ensures words.key) words.table_id.slots c.args.object c.args.task.now c.requires.ending c.settle.new.task
    c.leave_turn.new.seat s.seat c.leave_turn.ensures.done s.path s.spare s.purse s.events

pub returns-clause-done : goal.returns-clause-done
returns-clause-done c = λ d.
    let words = c.args.words.now in
    let s = c.settle.ensures in
    ended words.key (c.core_laws.ensures words.key) words.table_id.slots c.args.object c.args.task.now d c.settle.new.task c.leave_turn.new.seat s.seat
    c.leave_turn.ensures.done s.path s.spare s.purse s.events
