use Rattle.jade_parser.proofs.Steps.{residual}
use Rattle.jade_parser.proofs.Pieced.{first_refused, second_refused, second_read}
use Rattle.jade_parser.proofs.pieces.parse_indexes.Goals as goal

pub returns-in_err-first : goal.returns-in_err-first
returns-in_err-first c = residual _ _ _ _ c.from_residual.ensures.1 (first_refused _ _ _ c.requires.within c.in_err-first.ensures)

pub returns-in_ok-cell : goal.returns-in_ok-cell
returns-in_ok-cell c = second_read _ _ _ _ _ _ _ c.in_ok-first.ensures (c.bracket.ensures.second c.if-bracket.true) c.in_ok-cell.ensures

pub returns-in_err-cell : goal.returns-in_err-cell
returns-in_err-cell c = residual _ _ _ _ c.from_residual-in_err-cell.ensures.1 (second_refused _ _ _ _ _ _ c.in_ok-first.ensures (c.bracket.ensures.second c.if-bracket.true) c.in_err-cell.ensures)
