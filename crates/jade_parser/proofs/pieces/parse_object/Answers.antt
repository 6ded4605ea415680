use Rattle.jade_parser.proofs.Steps.{residual}
use Rattle.jade_parser.proofs.Pieced.{object_refused, member_refused}
use Rattle.jade_parser.proofs.pieces.parse_object.Goals as goal

pub returns-in_err-name : goal.returns-in_err-name
returns-in_err-name c = residual _ _ _ _ c.from_residual.ensures.1 (object_refused _ _ _ c.requires.within c.in_err-name.ensures)

pub returns-in_err-member : goal.returns-in_err-member
returns-in_err-member c = residual _ _ _ _ c.from_residual-in_err-member.ensures.1 (member_refused _ _ _ _ _ _ c.pos_at-pos.ensures c.in_ok-name.ensures (c.bracket.ensures.second c.if-bracket.true)
    c.in_err-member.ensures)
