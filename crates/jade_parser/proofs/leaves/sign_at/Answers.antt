use Rattle.jade_parser.proofs.Standing.{head_fixed, head_called, head_counted, head_odd}
use Rattle.jade_parser.proofs.leaves.sign_at.Goals as goal

pub returns-in-Fixed : goal.returns-in-Fixed
returns-in-Fixed c = head_fixed _ _ _ _ c.if-at-tokens.true c.in-Fixed.is

pub returns-in-Called : goal.returns-in-Called
returns-in-Called c = head_called _ _ _ _ c.if-at-tokens.true c.in-Called.is

pub returns-in-Counted : goal.returns-in-Counted
returns-in-Counted c = head_counted _ _ _ _ c.if-at-tokens.true c.in-Counted.is

pub returns-in-Unknown : goal.returns-in-Unknown
returns-in-Unknown c = head_odd _ _ _ c.if-at-tokens.true c.in-Unknown.is
