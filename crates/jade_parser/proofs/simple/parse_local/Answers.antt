use Rattle.jade_parser.proofs.Steps.{residual}
use Rattle.jade_parser.proofs.Simply.{local_unnamed, local_ungiven, local_refused, local_read}
use Rattle.jade_parser.proofs.simple.parse_local.Goals as goal

pub returns-in_err-name : goal.returns-in_err-name
returns-in_err-name c = residual _ _ _ _ c.from_residual.ensures.1 (local_unnamed _ _ _ _ _ c.requires.read c.in_err-name.ensures)

pub returns-in_err-at : goal.returns-in_err-at
returns-in_err-at c = residual _ _ _ _ c.from_residual-in_err-at.ensures.1 (local_ungiven _ _ _ _ _ _ _ _ c.pos_at-pos.ensures c.requires.read c.in_ok-name.ensures c.in_err-at.ensures)

pub returns : goal.returns
returns c = local_read _ _ _ _ _ _ _ _ _ _ c.pos_at-pos.ensures c.requires.read c.in_ok-name.ensures c.in_ok-at.ensures
    c.in_ok-value.ensures

pub returns-in_err-value : goal.returns-in_err-value
returns-in_err-value c = residual _ _ _ _ c.from_residual-in_err-value.ensures.1 (local_refused _ _ _ _ _ _ _ _ _ c.pos_at-pos.ensures c.requires.read c.in_ok-name.ensures c.in_ok-at.ensures
    c.in_err-value.ensures)
