use Rattle.std.proofs.Common.{◌≡◌, false, [], ◌∷◌, drop, refl, ap, sym, ◌∙◌, arith}
use Rattle.proc_expand.specs.declared.sign.Bracket.TheVariants.{Round}
use Rattle.proc_expand.specs.Words.{at, is_comma}
use Rattle.proc_expand.proofs.Nested.{closed_within, step_inside, next_later}
use Rattle.proc_expand.proofs.CallFacts.{rest_stops, rest_ended}
use Rattle.proc_expand.proofs.Writing.{ends_none, ends_comma, other_rest}
use Rattle.proc_expand.proofs.write.argument_end.Goals as goal

pub inside-init : goal.inside-init
inside-init c = record { down = omega arith; same = refl; inside = c.requires.inside }

pub inside-smaller : goal.inside-smaller
inside-smaller c =
    let t = c.inside-test.true in
    let s = next_later c.args.signs.now c.inside.place c.in-Some.next (omega (arith, t)) (sym c.in-Some.ensures) in
    omega (arith, s.0, s.1, t)

pub inside-preserved : goal.inside-preserved
inside-preserved c =
    let ss = c.args.signs.now in let k = c.inside.place in let n = c.in-Some.next in let t = c.inside-test.true in
    let comma : is_comma (at ss k) ≡ false = ap is_comma (sym c.sign_at.ensures) ∙ sym c.is_comma.ensures ∙ c.if-is_comma.false in
    let s = next_later ss k n (omega (arith, t)) (sym c.in-Some.ensures) in let d = c.inside.invariant.down in
    record {
      down = omega (arith, s.0, d);
      same = sym (other_rest ss c.args.start c.args.close k n (omega (arith, t)) comma (sym c.in-Some.ensures)) ∙ c.inside.invariant.same;
      inside = record { closed = step_inside ss k n Round (omega (arith, t)) (sym c.in-Some.ensures) ∙ c.inside.invariant.inside.closed };
    }

pub returns-then-is_comma : goal.returns-then-is_comma
returns-then-is_comma c =
    let ss = c.args.signs.now in let k = c.inside.place in let t = c.inside-test.true in
    ends_comma ss c.args.start c.args.close k c.inside.invariant.down (omega (arith, t)) (ap is_comma (sym c.sign_at.ensures) ∙ sym c.is_comma.ensures ∙ c.if-is_comma.true)
    c.inside.invariant.same c.inside.invariant.inside

pub returns-in-None : goal.returns-in-None
returns-in-None c =
    let ss = c.args.signs.now in let k = c.inside.place in let t = c.inside-test.true in
    let s = rest_stops ss k (omega (arith, t)) (sym c.in-None.ensures) in
    let d = c.inside.invariant.down in let w = closed_within (drop k ss) (Round ∷ []) k c.args.close c.inside.invariant.inside.closed in
    ends_none ss c.args.start c.args.close (omega (arith, d, w.0)) (sym c.inside.invariant.same ∙ s.0)

pub returns : goal.returns
returns c =
    let ss = c.args.signs.now in let t = c.inside-test.false in
    let d = c.inside.invariant.down in let k = c.inside.place in
    let w = closed_within (drop k ss) (Round ∷ []) k c.args.close c.inside.invariant.inside.closed in
    ends_none ss c.args.start c.args.close (omega (arith, d, w.0)) (sym c.inside.invariant.same ∙ rest_ended ss c.inside.place (omega (arith, t)))
