use Rattle.std.proofs.Common.{arith}
use Rattle.jade_parser.proofs.Digits.{not_small}
use Rattle.jade_parser.proofs.kinds.value.Goals as goal

pub returns-then-value-unit : goal.returns-then-value-unit
returns-then-value-unit c = not_small c.args.text.now c.loop-byte.byte-index c.loop-byte.value c.loop-byte-test.true c.loop-byte.invariant.same
    (omega arith)
