use Rattle.jade_parser.proofs.Steps.{residual}
use Rattle.jade_parser.proofs.Pieced.{ended_first, ended_second, ended_read}
use Rattle.jade_parser.proofs.pieces.parse_ended.Goals as goal

pub returns-in_err-inner : goal.returns-in_err-inner
returns-in_err-inner c = residual _ _ _ _ c.from_residual.ensures.1 (ended_first _ _ _ _ c.requires.within c.in_err-inner.ensures)

pub returns : goal.returns
returns c = ended_read _ _ _ _ _ _ c.in_ok-inner.ensures c.in_ok-at.ensures

pub returns-in_err-at : goal.returns-in_err-at
returns-in_err-at c = residual _ _ _ _ c.from_residual-in_err-at.ensures.1 (ended_second _ _ _ _ _ _ c.in_ok-inner.ensures c.in_err-at.ensures)
