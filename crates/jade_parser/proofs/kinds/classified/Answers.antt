use Rattle.std.proofs.Common.{refl}
use Rattle.jade_parser.proofs.Classing.{seen_more}
use Rattle.jade_parser.proofs.kinds.classified.Goals as goal

pub loop-place-preserved : goal.loop-place-preserved
loop-place-preserved c = seen_more _ _ _ _ _ _ c.at-lexeme.ensures c.in_ok-push.ensures.items c.kind_of.ensures refl c.loop-place.invariant
