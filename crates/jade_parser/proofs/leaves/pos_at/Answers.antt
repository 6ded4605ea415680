use Rattle.jade_parser.proofs.Standing.{pos_here, pos_past}
use Rattle.jade_parser.proofs.leaves.pos_at.Goals as goal

pub returns-then-at-tokens : goal.returns-then-at-tokens
returns-then-at-tokens c = pos_here _ _ _ c.if-at-tokens.true

pub returns-else-at-tokens : goal.returns-else-at-tokens
returns-else-at-tokens c = pos_past _ _ c.if-at-tokens.false
