use Rattle.std.proofs.Common.{arith}
use Rattle.jade_layout.proofs.Adding.{more_names}
use Rattle.jade_layout.proofs.statements.put_names.Goals as goal

pub loop-i-preserved : goal.loop-i-preserved
loop-i-preserved c =
    more_names _ _ _ _ _ c.loop-i.i _ (omega arith) c.at-in-loop-i.ensures c.loop-i.invariant c.in_ok-put.ensures c.in_ok-put_name-2.ensures
