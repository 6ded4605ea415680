use Rattle.jade_parser.proofs.Steps.{residual}
use Rattle.jade_parser.proofs.Simply.{indexes_refused, store_ungiven, store_refused, store_read}
use Rattle.jade_parser.proofs.simple.parse_store.Goals as goal

pub returns-in_err-family : goal.returns-in_err-family
returns-in_err-family c = residual _ _ _ _ c.from_residual.ensures.1 (indexes_refused _ _ _ _ _ _ _ c.requires.main c.requires.read c.in_err-family.ensures)

pub returns-in_err-at : goal.returns-in_err-at
returns-in_err-at c = residual _ _ _ _ c.from_residual-in_err-at.ensures.1 (store_ungiven _ _ _ _ _ _ _ _ _ c.requires.main c.requires.read c.in_ok-family.ensures c.in_err-at.ensures)

pub returns : goal.returns
returns c = store_read _ _ _ _ _ _ _ _ _ _ _ _ c.requires.main c.requires.further c.requires.read c.in_ok-family.ensures c.in_ok-at.ensures
    c.in_ok-value.ensures

pub returns-in_err-value : goal.returns-in_err-value
returns-in_err-value c = residual _ _ _ _ c.from_residual-in_err-value.ensures.1 (store_refused _ _ _ _ _ _ _ _ _ _ c.requires.main c.requires.read c.in_ok-family.ensures c.in_ok-at.ensures
    c.in_err-value.ensures)
