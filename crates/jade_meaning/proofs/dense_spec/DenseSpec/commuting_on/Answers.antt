use Rattle.std.proofs.Common.{◌≡◌, ap, sym, ◌∙◌, true, false, arith}
use Rattle.jade_base.specs.Rights.{is_there}
use Rattle.jade_base.specs.declared.rights.Rights.{Rights}
use Rattle.jade_meaning.specs.Specification.{rights_on}
use Rattle.jade_meaning.proofs.Covering.{commutes_more, commutes_at}
use Rattle.jade_meaning.proofs.dense_spec.DenseSpec.commuting_on.Goals as goal

pub returns-then-is_there : goal.returns-then-is_there
returns-then-is_there c =
    let spec = c.args.self.now in
    let o = c.loop-object.object in
    let e : is_there (rights_on spec o).commutes ≡ true = ap (λ (a : Rights). is_there a.commutes) (sym c.on.ensures) ∙ sym c.is_there.ensures
    ∙ c.if-is_there.true in
    sym (commutes_at spec o (omega arith) e c.loop-object.invariant)

pub loop-object-preserved : goal.loop-object-preserved
loop-object-preserved c =
    let spec = c.args.self.now in
    let o = c.loop-object.object in
    let e : is_there (rights_on spec o).commutes ≡ false = ap (λ (a : Rights). is_there a.commutes) (sym c.on.ensures) ∙ sym c.is_there.ensures
    ∙ c.if-is_there.false in
    commutes_more spec o (omega arith) e c.loop-object.invariant
