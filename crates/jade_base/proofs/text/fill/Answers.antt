-- One more read, and the end.
use Rattle.std.proofs.Common.{arith}
use Rattle.jade_base.proofs.Reading.{Filled-more, length-left}
use Rattle.jade_base.proofs.text.fill.Goals as goal

pub returns-in-Ok-eq0-clause-ended : goal.returns-in-Ok-eq0-clause-ended
returns-in-Ok-eq0-clause-ended g c =
    λ short b told. length-left _ _ c.loop-filled.invariant.0 c.in-Ok-eq0.ensures.gives c.in-Ok-eq0.field-0-test b told

pub loop-filled-preserved : goal.loop-filled-preserved
loop-filled-preserved g c = (
  Filled-more _ _ _ _ c.loop-filled.invariant.0 c.in-Ok.ensures.within c.in-Ok.ensures.gives c.in-Ok.ensures.after,
  omega (arith, c.loop-filled.invariant.1, c.in-Ok.ensures.count),
)
