use Rattle.jade_parser.proofs.Steps.{residual}
use Rattle.jade_parser.proofs.Declared.{between_first, between_second, between_third, between_read}
use Rattle.jade_parser.proofs.items.parse_between.Goals as goal

pub returns-in_err-at : goal.returns-in_err-at
returns-in_err-at c = residual _ _ _ _ c.from_residual.ensures.1 (between_first _ _ _ _ _ c.requires c.in_err-at.ensures)

pub returns-in_err-number : goal.returns-in_err-number
returns-in_err-number c = residual _ _ _ _ c.from_residual-in_err-number.ensures.1 (between_second _ _ _ _ _ _ c.in_ok-at.ensures c.in_err-number.ensures)

pub returns-in_err-at-2 : goal.returns-in_err-at-2
returns-in_err-at-2 c = residual _ _ _ _ c.from_residual-in_err-at-2.ensures.1
    (between_third _ _ _ _ _ _ _ c.in_ok-at.ensures c.in_ok-number.ensures c.in_err-at-2.ensures)

pub returns : goal.returns
returns c = between_read _ _ _ _ _ _ _ c.in_ok-at.ensures c.in_ok-number.ensures c.in_ok-at-2.ensures
