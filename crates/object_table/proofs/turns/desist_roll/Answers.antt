use Rattle.object_table.proofs.RollCalls.{may_desist_roll, desisted_roll_rests, desisted_roll}
use Rattle.object_table.proofs.turns.desist_roll.Goals as goal

pub leave_turn-requires-clause-allowed : goal.leave_turn-requires-clause-allowed
leave_turn-requires-clause-allowed c =
    let words = c.args.words.now in
    let b = c.requires.begun in
    may_desist_roll words.key words.table_id.slots c.args.place b.1 b.0 c.args.task.now b.2

pub returns-clause-rests : goal.returns-clause-rests
returns-clause-rests c =
    let words = c.args.words.now in
    let b = c.requires.begun in
    desisted_roll_rests words.key words.table_id.slots c.args.place b.1 b.0 c.args.task.now b.2 c.leave_turn.new.seat c.leave_turn.ensures.done

pub returns-clause-after : goal.returns-clause-after
returns-clause-after c = λ before r b.
    let words = c.args.words.now in
    desisted_roll words.key words.table_id.slots c.args.place r before c.args.task.now b c.leave_turn.new.seat c.leave_turn.ensures.done
