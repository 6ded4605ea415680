use Rattle.jade_run.proofs.Replaying.{item_differs, other_lists, same_more}
use Rattle.jade_run.proofs.replay.are_turns.Goals as goal

pub returns-then-not-are_paths : goal.returns-then-not-are_paths
returns-then-not-are_paths c = (
  λ t. absurd (cc),
  λ e. absurd (item_differs c.args.one.now c.args.other.now c.loop-i.i c.at.result.now c.at-in-loop-i.result.now c.at.ensures c.at-in-loop-i.ensures
      (other_lists c.at.result.now c.at-in-loop-i.result.now c.are_paths.result c.are_paths.ensures c.if-not-are_paths.true) e),
)

pub loop-i-preserved : goal.loop-i-preserved
loop-i-preserved c =
    same_more c.args.one.now c.args.other.now c.loop-i.i c.at.result.now c.at-in-loop-i.result.now c.at.ensures c.at-in-loop-i.ensures
    (c.are_paths.ensures.0 c.if-not-are_paths.false) c.loop-i.invariant
