use Rattle.jade_parser.proofs.Steps.{residual}
use Rattle.jade_parser.proofs.Declared.{single_unnamed, word_named, single_open, single_read}
use Rattle.jade_parser.proofs.items.parse_single.Goals as goal

pub returns-in_err-name : goal.returns-in_err-name
returns-in_err-name c = residual _ _ _ _ c.from_residual.ensures.1 (single_unnamed _ _ _ c.requires.read c.in_err-name.ensures)

pub returns-in_err-size : goal.returns-in_err-size
returns-in_err-size c = residual _ _ _ _ c.from_residual-in_err-size.ensures.1
    (single_open _ _ _ _ _ (word_named _ _ _ _ _ _ c.pos_at-pos.ensures c.requires.read c.in_ok-name.ensures) c.in_err-size.ensures)

pub returns : goal.returns
returns c = single_read _ _ _ _ _ _ (word_named _ _ _ _ _ _ c.pos_at-pos.ensures c.requires.read c.in_ok-name.ensures) c.in_ok-size.ensures
