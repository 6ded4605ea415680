use Rattle.jade_parser.proofs.Steps.{residual}
use Rattle.jade_parser.proofs.Declared.{family_unnamed, word_named, family_open, family_counted, family_unsized, family_read}
use Rattle.jade_parser.proofs.items.parse_family.Goals as goal

pub returns-in_err-name : goal.returns-in_err-name
returns-in_err-name c = residual _ _ _ _ c.from_residual.ensures.1 (family_unnamed _ _ _ c.requires.read c.in_err-name.ensures)

pub returns-in_err-count : goal.returns-in_err-count
returns-in_err-count c = residual _ _ _ _ c.from_residual-in_err-count.ensures.1
    (family_open _ _ _ _ _ (word_named _ _ _ _ _ _ c.pos_at-pos.ensures c.requires.read c.in_ok-name.ensures) c.in_err-count.ensures)

pub returns-in_err-size : goal.returns-in_err-size
returns-in_err-size c = residual _ _ _ _ c.from_residual-in_err-size.ensures.1
    (family_unsized _ _ _ _ _ _ _ (family_counted _ _ _ _ _ _ (word_named _ _ _ _ _ _ c.pos_at-pos.ensures c.requires.read c.in_ok-name.ensures)
    c.in_ok-count.ensures) c.in_err-size.ensures)

pub returns : goal.returns
returns c = family_read _ _ _ _ _ _ _ _
    (family_counted _ _ _ _ _ _ (word_named _ _ _ _ _ _ c.pos_at-pos.ensures c.requires.read c.in_ok-name.ensures) c.in_ok-count.ensures)
    c.in_ok-size.ensures
