use Rattle.run_record.specs.Pieces.{path_text}
use Rattle.run_record.proofs.Adding.{piece_more}
use Rattle.run_record.proofs.write.push_paths.Goals as goal

pub loop-i-preserved : goal.loop-i-preserved
loop-i-preserved c = piece_more 32 path_text _ _ _ _ _ _ _ c.path_at.ensures c.loop-i.invariant c.in_ok-push.ensures.items c.in_ok-push_path.ensures
