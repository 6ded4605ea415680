use Rattle.jade_parser.proofs.Steps.{residual}
use Rattle.jade_parser.proofs.Pieced.{paren_refused, inner_refused, closing_refused, semicolon_refused, declared_read}
use Rattle.jade_parser.proofs.pieces.parse_declared.Goals as goal

pub returns-in_err-opened : goal.returns-in_err-opened
returns-in_err-opened c = residual _ _ _ _ c.from_residual.ensures.1 (paren_refused _ _ _ c.requires.within c.in_err-opened.ensures)

pub returns-in_err-object : goal.returns-in_err-object
returns-in_err-object c = residual _ _ _ _ c.from_residual-in_err-object.ensures.1 (inner_refused _ _ _ _ c.in_ok-opened.ensures c.in_err-object.ensures)

pub returns-in_err-closed : goal.returns-in_err-closed
returns-in_err-closed c = residual _ _ _ _ c.from_residual-in_err-closed.ensures.1 (closing_refused _ _ _ _ _ _ c.in_ok-opened.ensures c.in_ok-object.ensures c.in_err-closed.ensures)

pub returns : goal.returns
returns c = declared_read _ _ _ _ _ _ _ c.in_ok-opened.ensures c.in_ok-object.ensures c.in_ok-closed.ensures c.in_ok-at.ensures

pub returns-in_err-at : goal.returns-in_err-at
returns-in_err-at c = residual _ _ _ _ c.from_residual-in_err-at.ensures.1 (semicolon_refused _ _ _ _ _ _ _ c.in_ok-opened.ensures c.in_ok-object.ensures c.in_ok-closed.ensures c.in_err-at.ensures)
