use Rattle.std.proofs.Common.{sym, ◌∙◌, arith}
use Rattle.proc_expand.proofs.Nested.{step_inside, next_later}
use Rattle.proc_expand.proofs.brackets.end_of.Goals as goal

pub inside-smaller : goal.inside-smaller
inside-smaller c =
    let s = next_later c.args.signs.now c.inside.place c.in-Some.next (omega arith) (sym c.in-Some.ensures) in
    omega (arith, s.0, s.1)

pub inside-preserved : goal.inside-preserved
inside-preserved c = record {
  further = let s = next_later c.args.signs.now c.inside.place c.in-Some.next (omega arith) (sym c.in-Some.ensures) in
      let f = c.inside.invariant.further in omega (arith, s.0, f);
  same = step_inside c.args.signs.now c.inside.place c.in-Some.next c.args.bracket (omega arith) (sym c.in-Some.ensures) ∙ c.inside.invariant.same;
}
