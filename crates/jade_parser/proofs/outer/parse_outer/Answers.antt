use Rattle.jade_parser.proofs.Cutting.{outer_read, outer_refused, long_whole, long_refused}
use Rattle.jade_parser.proofs.outer.parse_outer.Goals as goal

pub returns-then-at-start-le-EXPRESSION_LIMIT : goal.returns-then-at-start-le-EXPRESSION_LIMIT
returns-then-at-start-le-EXPRESSION_LIMIT c = outer_read _ _ _ _ c.in-Ok.ensures c.if-at-start-le-EXPRESSION_LIMIT.true

pub returns-else-at-start-le-EXPRESSION_LIMIT : goal.returns-else-at-start-le-EXPRESSION_LIMIT
returns-else-at-start-le-EXPRESSION_LIMIT c = long_whole _ _ _ _ c.in-Ok.ensures c.if-at-start-le-EXPRESSION_LIMIT.false

pub returns-then-at-start-le-EXPRESSION_LIMIT-2 : goal.returns-then-at-start-le-EXPRESSION_LIMIT-2
returns-then-at-start-le-EXPRESSION_LIMIT-2 c =
    outer_refused _ _ _ (rw c.in-Err-Token.field-0-is at c.in-Err-Token.ensures) c.if-at-start-le-EXPRESSION_LIMIT-2.true

pub returns-else-at-start-le-EXPRESSION_LIMIT-2 : goal.returns-else-at-start-le-EXPRESSION_LIMIT-2
returns-else-at-start-le-EXPRESSION_LIMIT-2 c =
    long_refused _ _ _ (rw c.in-Err-Token.field-0-is at c.in-Err-Token.ensures) c.if-at-start-le-EXPRESSION_LIMIT-2.false
