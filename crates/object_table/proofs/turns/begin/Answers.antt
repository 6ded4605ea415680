use Rattle.std.proofs.Common.{◌≡◌, true, false, sym, ◌∙◌}
use Rattle.object_table.proofs.Calls.{alive_is}
use Rattle.object_table.proofs.Leaving.{begun_as, rests_on, was_busy}
use Rattle.object_table.proofs.turns.begin.Goals as goal

pub take_turn-requires-clause-rests : goal.take_turn-requires-clause-rests
take_turn-requires-clause-rests c =
    let r = c.requires.rests in (r.holds, r.idle)

pub take_turn-requires-clause-ready : goal.take_turn-requires-clause-ready
take_turn-requires-clause-ready c =
    λ e. absurd (let no : false ≡ true = sym e ∙ alive_is c.args.task.now c.requires.rests c.requires.live in cc)

pub returns-clause-got : goal.returns-clause-got
returns-clause-got c =
    begun_as c.args.words.now.table_id.slots c.args.place c.args.task.now c.requires.rests c.requires.live c.take_turn.new.seat c.take_turn.result c.take_turn.ensures.got

pub returns-clause-over : goal.returns-clause-over
returns-clause-over c = rests_on c.args.task.now c.requires.rests c.take_turn.new.seat c.args.place c.take_turn.result c.take_turn.ensures.busy

pub returns-clause-busy : goal.returns-clause-busy
returns-clause-busy c = was_busy c.args.task.now c.requires.rests c.take_turn.new.seat c.args.place c.take_turn.result c.take_turn.ensures.busy
