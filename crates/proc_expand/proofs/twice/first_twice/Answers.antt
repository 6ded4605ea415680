use Rattle.std.proofs.Common.{length, ap, ◌∙◌, arith, ◌≡◌}
use Rattle.proc_expand.specs.steps.Looking.{earliest}
use Rattle.proc_expand.proofs.KnownNames.{as_long}
use Rattle.proc_expand.proofs.Repeated.{twice_before, none_twice, twice_more}
use Rattle.proc_expand.proofs.twice.first_twice.Goals as goal

pub loop-place-init : goal.loop-place-init
loop-place-init c = none_twice c.args.tokens.now.lexemes

pub loop-place-preserved : goal.loop-place-preserved
loop-place-preserved c =
    c.earliest-found.ensures ∙ ap (earliest c.loop-place.found) c.earliest.ensures
    ∙ twice_more c.args.tokens.now.lexemes c.loop-place.place c.loop-place.found c.repeated_name-name.result c.in_ok-param.param c.loop-place.invariant
    c.repeated_name-name.ensures c.in_ok-param.ensures

pub returns : goal.returns
returns c =
    let ts = c.args.tokens.now.lexemes in
    let t = c.loop-place-test.false in let e = c.loop-place.auto.place-end in let n = as_long ts c.args.scan.now c.requires.scan in
    let done : c.loop-place.place ≡ length ts = omega (arith, t, e, n) in
    c.loop-place.invariant ∙ ap (twice_before ts) done
