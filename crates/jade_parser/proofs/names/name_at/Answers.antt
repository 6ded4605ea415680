use Rattle.std.proofs.Common.{refl, [], ◌∷◌}
use Rattle.jade_parser.specs.steps.Machine.{NameIs}
use Rattle.jade_parser.proofs.Standing.{called_taken, called_known, never_shape, stops_kind}
use Rattle.jade_parser.proofs.names.name_at.Goals as goal

pub returns-in-Ok : goal.returns-in-Ok
returns-in-Ok c = rw c.in-Ok.ensures.made (called_taken _ _ _ _ _ _ c.if-at-tokens.false c.in-Called.is (λ rest st. refl))

pub returns-in-Fixed : goal.returns-in-Fixed
returns-in-Fixed c = stops_kind _ _ _ _ _ c.if-at-tokens.false c.in-Fixed.is (λ rest st. refl)

pub returns-in-Counted : goal.returns-in-Counted
returns-in-Counted c = stops_kind _ _ _ _ _ c.if-at-tokens.false c.in-Counted.is (λ rest st. refl)

pub returns-in-Unknown : goal.returns-in-Unknown
returns-in-Unknown c = stops_kind _ _ _ _ _ c.if-at-tokens.false c.in-Unknown.is (λ rest st. refl)

pub unreachable-requires : goal.unreachable-requires
unreachable-requires c = never_shape c.in-Called.text.now _
    (called_known (called_taken _ _ _ _ (NameIs ∷ []) [] c.if-at-tokens.false c.in-Called.is (λ rest st. refl)) c.requires) c.in-Err-Shape.ensures.refused
    c.in-Err-Shape.field-0-is
