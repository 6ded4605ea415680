use Rattle.jade_types.proofs.Scoping.{one_more}
use Rattle.jade_types.proofs.numbers.body.Body.created.Goals as goal

pub loop-i-preserved : goal.loop-i-preserved
loop-i-preserved c =
    one_more c.args.self.now c.loop-i.body c.declare.new.self c.args.names.now c.loop-i.i _ c.at.ensures c.loop-i.invariant c.in_ok-declare.ensures
