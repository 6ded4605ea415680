use Rattle.std.proofs.Common.{◌≡◌, ◌<◌, ◌≤◌, ap, length, true, rules, arith}
use Rattle.code_meaning.specs.Meaning.{Body}
use Rattle.task_code.proofs.Keeping.{one_kept, all_kept}
use Rattle.task_code.proofs.valid.bad_place.Goals as goal

pub places-preserved : goal.places-preserved
places-preserved c =
    let long = ap (λ (b : Body). length b.code) c.body.view_is in
    let lt : c.places.place < length c.args.body.now.code = omega (arith, c.places-test.true, c.len-place-end.ensures, c.body.inside.code.ok.0, long) in
    let kept : c.keeps.result ≡ true = search rules in
    one_kept c.args.raw.now c.args.own c.args.body.now c.places.place c.keeps.result lt c.places.invariant c.keeps.ensures kept

pub returns : goal.returns
returns c =
    let long = ap (λ (b : Body). length b.code) c.body.view_is in
    let le : length c.args.body.now.code ≤ c.places.place = omega (arith, c.places-test.false, c.len-place-end.ensures, c.body.inside.code.ok.0, long) in
    all_kept c.args.raw.now c.args.own c.args.body.now c.places.place le c.places.invariant
