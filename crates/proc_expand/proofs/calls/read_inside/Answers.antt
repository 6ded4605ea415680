use Rattle.std.proofs.Common.{◌≡◌, ◌+◌, ◌&&◌, length, Some, refl, ap, sym, ◌∙◌, arith}
use Rattle.std.specs.Prelude.{if◌then◌else◌}
use Rattle.proc_expand.specs.Words.{is_comma, at}
use Rattle.proc_expand.specs.steps.Looking.{earliest}
use Rattle.proc_expand.specs.Refusals.{commas}
use Rattle.proc_expand.proofs.First.{earliest_none}
use Rattle.proc_expand.proofs.Nested.{next_later}
use Rattle.proc_expand.proofs.CallFacts.{rest, rest_next, rest_stops, rest_ended, empties, after_none, no_empties, step_empties, step_count, call_within, at_most}
use Rattle.proc_expand.proofs.calls.read_inside.Goals as goal

pub inside-init : goal.inside-init
inside-init c = record {
  further = omega arith;
  within = let l = call_within c.args.signs.now c.args.call c.requires.call in omega (arith, l);
  few = omega arith;
  commas = omega arith;
  empty = refl;
}

pub inside-smaller : goal.inside-smaller
inside-smaller c =
    let s = next_later c.args.signs.now c.inside.place c.in-Some.next (let t = c.inside-test.true in omega (arith, t)) (sym c.in-Some.ensures) in
    let t = c.inside-test.true in omega (arith, s.0, s.1, t)

pub inside-preserved : goal.inside-preserved
inside-preserved c =
    let ss = c.args.signs.now in let k = c.inside.place in let i = c.inside.invariant in
    let t = c.inside-test.true in
    let s = next_later ss k c.in-Some.next (omega (arith, t)) (sym c.in-Some.ensures) in
    let n = rest_next ss k c.in-Some.next (omega (arith, t)) (sym c.in-Some.ensures) in
    record {
      further = let f = i.further in omega (arith, s.0, f);
      within = omega (arith, s.1);
      few = let m = at_most c.with_comma-found.result.commas c.inside.found.commas (is_comma (at ss k)) c.with_comma-found.ensures.commas in
          let f = i.few in omega (arith, m, f, s.0);
      commas = step_count ss c.args.call c.inside.found.commas c.with_comma-found.result.commas k (rest ss c.in-Some.next) (is_comma (at ss k))
          c.with_comma-found.ensures.commas ∙ ap (λ u. c.inside.found.commas + length u) (sym n) ∙ i.commas;
      empty = step_empties ss c.args.call c.inside.found.empty c.with_comma-found.result.empty k (rest ss c.in-Some.next) (is_comma (at ss k))
          (omega (arith, t)) c.with_comma-found.ensures.empty ∙ ap (λ u. earliest c.inside.found.empty (empties ss c.args.call u)) (sym n) ∙ i.empty;
    }

pub returns-in-None-clause-commas : goal.returns-in-None-clause-commas
returns-in-None-clause-commas c =
    let ss = c.args.signs.now in let k = c.inside.place in let i = c.inside.invariant.commas in
    let t = c.inside-test.true in
    let s = rest_stops ss k (omega (arith, t)) (sym c.in-None.ensures) in
    let none : length (rest ss k) ≡ 0 = ap length s.0 in
    let all : c.inside.found.commas ≡ length (commas ss c.args.call) = omega (arith, i, none) in
    c.with_comma-found.ensures.commas ∙ ap (λ b. if b then c.inside.found.commas + 1 else c.inside.found.commas) s.1 ∙ all

pub returns-in-None-clause-empty : goal.returns-in-None-clause-empty
returns-in-None-clause-empty c =
    let ss = c.args.signs.now in let k = c.inside.place in let f = c.inside.found.empty in
    let t = c.inside-test.true in
    let s = rest_stops ss k (omega (arith, t)) (sym c.in-None.ensures) in
    c.with_comma-found.ensures.empty
    ∙ ap (λ b. if b && after_none ss c.args.call k then earliest f (Some k) else f) s.1
    ∙ sym (ap (earliest f) (ap (empties ss c.args.call) s.0 ∙ no_empties ss c.args.call) ∙ earliest_none f) ∙ c.inside.invariant.empty

pub returns-clause-empty : goal.returns-clause-empty
returns-clause-empty c =
    let ss = c.args.signs.now in let f = c.inside.found.empty in
    let t = c.inside-test.false in
    sym (ap (earliest f) (ap (empties ss c.args.call) (rest_ended ss c.inside.place (omega (arith, t))) ∙ no_empties ss c.args.call) ∙ earliest_none f)
    ∙ c.inside.invariant.empty

pub returns-clause-few : goal.returns-clause-few
returns-clause-few c = let i = c.inside.invariant.few in let w = c.inside.invariant.within in omega (arith, i, w)
