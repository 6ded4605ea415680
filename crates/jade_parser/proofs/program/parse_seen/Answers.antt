use Rattle.jade_parser.proofs.Steps.{residual}
use Rattle.jade_parser.proofs.Refusing.{head_refused, main_refused, text_after, all_read}
use Rattle.jade_parser.proofs.program.parse_seen.Goals as goal

pub returns-in_err-items : goal.returns-in_err-items
returns-in_err-items c = residual _ _ _ _ c.from_residual.ensures.1 (head_refused _ _ c.in_err-items.ensures)

pub returns-in_err-main : goal.returns-in_err-main
returns-in_err-main c = residual _ _ _ _ c.from_residual-in_err-main.ensures.1 (main_refused _ _ _ _ c.in_ok-items.ensures c.in_err-main.ensures)

pub returns-then-at-tokens : goal.returns-then-at-tokens
returns-then-at-tokens c = text_after _ _ _ _ _ c.in_ok-items.ensures c.in_ok-main.ensures c.if-at-tokens.true

pub returns : goal.returns
returns c = all_read _ _ _ _ _ c.in_ok-items.ensures c.in_ok-main.ensures c.if-at-tokens.false
