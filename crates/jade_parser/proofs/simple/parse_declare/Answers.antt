use Rattle.jade_parser.proofs.Steps.{residual}
use Rattle.jade_parser.proofs.Simply.{declare_refused, declare_read}
use Rattle.jade_parser.proofs.simple.parse_declare.Goals as goal

pub returns : goal.returns
returns c = declare_read _ _ _ _ _ _ _ c.pos_at-pos.ensures c.requires.stands c.requires.read c.in_ok-object.ensures

pub returns-in_err-object : goal.returns-in_err-object
returns-in_err-object c = residual _ _ _ _ c.from_residual.ensures.1 (declare_refused _ _ _ _ _ c.requires.stands c.requires.read c.in_err-object.ensures)
