use Rattle.std.proofs.Common.{◌∙◌, sym}
use Rattle.jade_meaning.proofs.Filling.{same_path_is}
use Rattle.jade_run.proofs.Replaying.{item_differs, other_path, same_more}
use Rattle.jade_run.proofs.replay.are_paths.Goals as goal

pub returns-then-not-is_same : goal.returns-then-not-is_same
returns-then-not-is_same c = (
  λ t. absurd (cc),
  λ e. absurd (item_differs c.args.one.now c.args.other.now c.loop-i.i c.at.result.now c.at-in-loop-i.result.now c.at.ensures c.at-in-loop-i.ensures
      (other_path c.at.result.now c.at-in-loop-i.result.now c.is_same.result c.is_same.ensures c.if-not-is_same.true) e),
)

pub loop-i-preserved : goal.loop-i-preserved
loop-i-preserved c =
    same_more c.args.one.now c.args.other.now c.loop-i.i c.at.result.now c.at-in-loop-i.result.now c.at.ensures c.at-in-loop-i.ensures
    (same_path_is c.at.result.now c.at-in-loop-i.result.now (sym c.is_same.ensures ∙ c.if-not-is_same.false)) c.loop-i.invariant
