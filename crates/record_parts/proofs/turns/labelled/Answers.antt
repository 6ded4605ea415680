use Rattle.std.proofs.Common.{arith}
use Rattle.record_parts.proofs.Naming.{one_object, all_turns, by}
use Rattle.record_parts.proofs.turns.labelled.Goals as goal

pub loop-object-preserved : goal.loop-object-preserved
loop-object-preserved c = (
  one_object c.args.checked.now.program.items c.args.lists.now c.loop-object.object c.at-paths.result.now c.loop-object.turns c.add_turn.new.turns c.at-paths.ensures
      (omega arith) c.in_ok-add_turn.ensures.turns c.loop-object.invariant.0,
  c.in_ok-add_turn.ensures.fit,
)

pub returns-clause-turns : goal.returns-clause-turns
returns-clause-turns c =
    all_turns c.args.checked.now.program.items c.loop-object.object c.loop-object.turns (by c.args.lists.now) (omega arith) c.loop-object.invariant.0
