use Rattle.object_table.proofs.Leaving.{may_leave, desisted_rests, desisted}
use Rattle.object_table.proofs.turns.desist.Goals as goal

pub leave_turn-requires-clause-allowed : goal.leave_turn-requires-clause-allowed
leave_turn-requires-clause-allowed c =
    let words = c.args.words.now in
    let b = c.requires.begun in
    may_leave words.table_id.slots c.args.place b.1 b.0 c.args.task.now b.2 words.key (c.core_laws.ensures words.key)

pub returns-clause-rests : goal.returns-clause-rests
returns-clause-rests c =
    let b = c.requires.begun in
    desisted_rests c.args.words.now.table_id.slots c.args.place b.1 b.0 c.args.task.now b.2 c.leave_turn.new.seat c.leave_turn.ensures.done

pub returns-clause-after : goal.returns-clause-after
returns-clause-after c = λ before y b.
    desisted c.args.words.now.table_id.slots c.args.place y before c.args.task.now b c.leave_turn.new.seat c.leave_turn.ensures.done
