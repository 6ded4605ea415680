-- One more write.
use Rattle.std.proofs.Common.{arith}
use Rattle.std.proofs.lemmas.List.{take_rest}
use Rattle.jade_base.proofs.Writing.{Written-more}
use Rattle.jade_base.proofs.text.write_text.Goals as goal

pub loop-written-preserved : goal.loop-written-preserved
loop-written-preserved g c = (
  Written-more _ _ _ _ _ c.loop-written.invariant.0 (take_rest c.args.text.now c.loop-written.written) c.in_ok-written.ensures.within
      c.in_ok-written.ensures.takes c.in_ok-written.ensures.less c.in_ok-written.ensures.quiet c.in_ok-written.ensures.count,
  λ e. absurd (omega arith),
)
