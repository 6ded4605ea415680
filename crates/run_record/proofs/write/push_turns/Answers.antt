use Rattle.run_record.specs.Recording.{turns_line}
use Rattle.run_record.proofs.Adding.{line_more}
use Rattle.run_record.proofs.write.push_turns.Goals as goal

pub loop-i-preserved : goal.loop-i-preserved
loop-i-preserved c = line_more turns_line _ _ _ _ _ _ c.at.ensures c.loop-i.invariant c.in_ok-push_turn.ensures
