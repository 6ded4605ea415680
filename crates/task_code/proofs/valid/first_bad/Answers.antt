use Rattle.std.proofs.Common.{◌≡◌, ◌<◌, ◌≤◌, Some, ap, sym, ◌∙◌, length, arith}
use Rattle.std.specs.Prelude.{slice_get}
use Rattle.std.proofs.lemmas.Option.{slice_get-get_or}
use Rattle.task_code.specs.Rules.{TaskCode}
use Rattle.task_code.proofs.Keeping.{body_kept, all_bodies}
use Rattle.task_code.proofs.valid.first_bad.Goals as goal

pub bodies-preserved : goal.bodies-preserved
bodies-preserved c =
    let r = c.args.raw.now in
    let items = c.raw.inside.bodies.items in
    let lt : c.bodies.own < length items = omega (arith, c.bodies-test.true, c.len-own-end.ensures, c.raw.inside.bodies.ok.0) in
    let at : slice_get r.bodies c.bodies.own ≡ Some c.index.result.now =
    ap (λ (k : TaskCode). slice_get k.bodies c.bodies.own) (sym c.raw.view_is) ∙ slice_get-get_or items c.bodies.own c.index.result.now lt
    ∙ ap Some (sym c.index.ensures) in
    body_kept r c.bodies.own c.index.result.now at c.bodies.invariant c.in-None.ensures

pub returns : goal.returns
returns c =
    let long = ap (λ (k : TaskCode). length k.bodies) c.raw.view_is in
    let le : length c.args.raw.now.bodies ≤ c.bodies.own = omega (arith, c.bodies-test.false, c.len-own-end.ensures, c.raw.inside.bodies.ok.0, long) in
    let some : 1 ≤ length c.args.raw.now.bodies = omega (arith, c.if-len-eq0.false, c.len.ensures, c.raw.inside.bodies.ok.0, long) in
    all_bodies c.args.raw.now c.bodies.own some le c.bodies.invariant
