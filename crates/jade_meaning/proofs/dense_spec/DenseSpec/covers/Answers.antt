use Rattle.std.proofs.Common.{◌≡◌, ap, sym, ◌∙◌, arith}
use Rattle.jade_base.specs.Rights.{covered}
use Rattle.jade_meaning.specs.Specification.{rights_on}
use Rattle.jade_meaning.proofs.Covering.{covered_more, covered_not}
use Rattle.jade_meaning.proofs.dense_spec.DenseSpec.covers.Goals as goal

pub returns-then-not-covers : goal.returns-then-not-covers
returns-then-not-covers c =
    let parent = c.args.self.now in
    let child = c.args.child.now in
    let o = c.loop-object.object in
    let e : covered (rights_on parent o) (rights_on child o) ≡ c.covers.result = ap (λ a. covered a (rights_on child o)) (sym c.on.ensures)
    ∙ ap (covered c.on.result) (sym c.on-in-loop-object.ensures) ∙ sym c.covers.ensures in
    sym (covered_not parent child o (omega arith) (e ∙ c.if-not-covers.true) c.loop-object.invariant)

pub loop-object-preserved : goal.loop-object-preserved
loop-object-preserved c =
    let parent = c.args.self.now in
    let child = c.args.child.now in
    let o = c.loop-object.object in
    let e : covered (rights_on parent o) (rights_on child o) ≡ c.covers.result = ap (λ a. covered a (rights_on child o)) (sym c.on.ensures)
    ∙ ap (covered c.on.result) (sym c.on-in-loop-object.ensures) ∙ sym c.covers.ensures in
    covered_more parent child o (omega arith) (e ∙ c.if-not-covers.false) c.loop-object.invariant
