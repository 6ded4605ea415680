use Rattle.std.proofs.Common.{refl, rules}
use mir.Val.{SFits}
use mir.Syntax.{w64}
use Rattle.std.proofs.lemmas.Int.{to_z-of_z}
use Rattle.jade_parser.proofs.Standing.{counted_taken, stops_kind}
use Rattle.jade_parser.proofs.names.number_at.Goals as goal

pub returns-in-Counted : goal.returns-in-Counted
returns-in-Counted c =
    let f : SFits w64 c.in-Counted.value = search rules in
    rw to_z-of_z (counted_taken _ _ _ _ _ _ c.if-at-tokens.false c.in-Counted.is (λ rest st. refl))

pub returns-in-Fixed : goal.returns-in-Fixed
returns-in-Fixed c = stops_kind _ _ _ _ _ c.if-at-tokens.false c.in-Fixed.is (λ rest st. refl)

pub returns-in-Called : goal.returns-in-Called
returns-in-Called c = stops_kind _ _ _ _ _ c.if-at-tokens.false c.in-Called.is (λ rest st. refl)

pub returns-in-Unknown : goal.returns-in-Unknown
returns-in-Unknown c = stops_kind _ _ _ _ _ c.if-at-tokens.false c.in-Unknown.is (λ rest st. refl)
