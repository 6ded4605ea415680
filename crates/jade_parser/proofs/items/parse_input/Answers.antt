use Rattle.jade_parser.proofs.Steps.{residual}
use Rattle.jade_parser.proofs.Declared.{input_unnamed, word_named, input_open, input_read}
use Rattle.jade_parser.proofs.items.parse_input.Goals as goal

pub returns-in_err-name : goal.returns-in_err-name
returns-in_err-name c = residual _ _ _ _ c.from_residual.ensures.1 (input_unnamed _ _ _ c.requires.read c.in_err-name.ensures)

pub returns-in_err-at : goal.returns-in_err-at
returns-in_err-at c = residual _ _ _ _ c.from_residual-in_err-at.ensures.1
    (input_open _ _ _ _ _ (word_named _ _ _ _ _ _ c.pos_at-pos.ensures c.requires.read c.in_ok-name.ensures) c.in_err-at.ensures)

pub returns : goal.returns
returns c = input_read _ _ _ _ _ (word_named _ _ _ _ _ _ c.pos_at-pos.ensures c.requires.read c.in_ok-name.ensures) c.in_ok-at.ensures
