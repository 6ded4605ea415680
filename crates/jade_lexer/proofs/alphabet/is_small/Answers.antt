use Rattle.std.proofs.Common.{sym, ap, ◌∙◌, arith}
use Rattle.std.proofs.Math.Dec.{leb}
use Rattle.jade_lexer.proofs.Values.{value_past}
use Rattle.jade_lexer.proofs.alphabet.is_small.Goals as goal

pub returns-then-value-unit : goal.returns-then-value-unit
returns-then-value-unit c =
    sym (ap (λ v. leb v 9223372036854775807) (sym c.loop-digit.invariant.same)
    ∙ value_past 9223372036854775807 c.loop-digit.value c.args.digits.now c.loop-digit.digit-index c.loop-digit-test.true (omega arith))
