use Rattle.std.proofs.Common.{[]}
use Rattle.jade_parser.specs.Spelled.{sign_part}
use Rattle.jade_parser.proofs.Reading.{whole_more}
use Rattle.jade_parser.proofs.expressions.signs.Goals as goal

pub loop-op-preserved : goal.loop-op-preserved
loop-op-preserved c = rw c.in_ok-put.ensures
    (whole_more sign_part [] c.loop-op.all (c.in-Some.op, c.pos_at-pos.result) c.loop-op.invariant (rw c.pos_at-pos.ensures c.in-Some.ensures))
