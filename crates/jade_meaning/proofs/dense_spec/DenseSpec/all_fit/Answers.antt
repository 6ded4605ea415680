use Rattle.std.proofs.Common.{◌≡◌, ap, sym, ◌∙◌, true, false, arith}
use Rattle.jade_meaning.specs.Specification.{rights_on, fits_commuting}
use Rattle.jade_meaning.proofs.Covering.{fit_more, fit_not}
use Rattle.jade_meaning.proofs.dense_spec.DenseSpec.all_fit.Goals as goal

pub returns-then-not-fits_commuting : goal.returns-then-not-fits_commuting
returns-then-not-fits_commuting c =
    let spec = c.args.self.now in
    let o = c.loop-object.object in
    let e : fits_commuting c.args.own o (rights_on spec o) ≡ false = ap (fits_commuting c.args.own o) (sym c.on.ensures) ∙ sym c.fits_commuting.ensures
    ∙ c.if-not-fits_commuting.true in
    sym (fit_not c.args.own spec o (omega arith) e c.loop-object.invariant)

pub loop-object-preserved : goal.loop-object-preserved
loop-object-preserved c =
    let spec = c.args.self.now in
    let o = c.loop-object.object in
    let e : fits_commuting c.args.own o (rights_on spec o) ≡ true = ap (fits_commuting c.args.own o) (sym c.on.ensures) ∙ sym c.fits_commuting.ensures
    ∙ c.if-not-fits_commuting.false in
    fit_more c.args.own spec o (omega arith) e c.loop-object.invariant
