use Rattle.jade_layout.proofs.Adding.{indents}
use Rattle.jade_layout.proofs.printer.write_line.Goals as goal

pub loop-i-preserved : goal.loop-i-preserved
loop-i-preserved c = indents _ _ _ _ c.loop-i.invariant c.in_ok-extend_from_slice.ensures.items
