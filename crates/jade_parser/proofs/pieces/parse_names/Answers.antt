use Rattle.jade_parser.proofs.Steps.{residual}
use Rattle.jade_parser.proofs.Pieced.{no_names, names_refused, comma_refused, later_refused, later_kept, names_read}
use Rattle.jade_parser.proofs.pieces.parse_names.Goals as goal

pub returns-then-is_at : goal.returns-then-is_at
returns-then-is_at c = no_names _ _ _ c.empty-all.ensures (c.is_at.ensures.yes c.if-is_at.true)

pub returns-in_err-name : goal.returns-in_err-name
returns-in_err-name c = residual _ _ _ _ c.from_residual.ensures.1 (names_refused _ _ _ c.requires.within (c.is_at.ensures.no c.if-is_at.false) c.in_err-name.ensures)

pub returns-then-not-is_at : goal.returns-then-not-is_at
returns-then-not-is_at c = comma_refused _ _ _ _ c.names.invariant.0 (c.is_at-in-names.ensures.no c.names-test.true)
    (c.is_at-in-names-2.ensures.no c.if-not-is_at.true)

pub returns-in_err-name-2 : goal.returns-in_err-name-2
returns-in_err-name-2 c = residual _ _ _ _ c.from_residual-in_err-name-2.ensures.1 (later_refused _ _ _ _ _ c.names.invariant (c.is_at-in-names-2.ensures.yes c.if-not-is_at.false) c.in_err-name-2.ensures)

pub names-preserved : goal.names-preserved
names-preserved c = later_kept _ _ _ _ _ _ _ c.in_ok-put-2.ensures c.pos_at-pos-in-names.ensures c.names.invariant
    (c.is_at-in-names-2.ensures.yes c.if-not-is_at.false) c.in_ok-name-2.ensures

pub returns : goal.returns
returns c = names_read _ _ _ _ c.names.invariant.0 (c.is_at-in-names.ensures.yes c.names-test.false)
