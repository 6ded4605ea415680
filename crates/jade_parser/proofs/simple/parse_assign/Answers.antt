use Rattle.jade_parser.proofs.Steps.{residual}
use Rattle.jade_parser.proofs.Simply.{assign_refused, assign_read}
use Rattle.jade_parser.proofs.simple.parse_assign.Goals as goal

pub returns : goal.returns
returns c = assign_read _ _ _ _ _ _ _ _ c.requires.further c.requires.read c.in_ok-value.ensures

pub returns-in_err-value : goal.returns-in_err-value
returns-in_err-value c = residual _ _ _ _ c.from_residual.ensures.1 (assign_refused _ _ _ _ _ _ _ c.requires.read c.in_err-value.ensures)
