use Rattle.std.proofs.Common.{◌≡◌, ap, ◌∙◌, length, ◌-◌, ◌++◌, take, replicate, arith}
use Rattle.jade_base.specs.Rights.{no_rights}
use Rattle.jade_meaning.specs.Specification.{fitted}
use Rattle.jade_meaning.proofs.Covering.{fitted_is}
use Rattle.jade_meaning.proofs.dense_spec.DenseSpec.fit.Goals as goal

pub returns : goal.returns
returns c =
    let base = c.args.base.now in
    let old = c.self.inside.rights in
    let n : old.len ≡ length old.items = omega (arith, old.ok.0) in
    c.in_ok-resize.ensures.items ∙ ap (λ k. take k old.items ++ replicate (k - old.len) no_rights) c.len.ensures
    ∙ ap (λ k. take (length base) old.items ++ replicate (length base - k) no_rights) n ∙ fitted_is base old.items ∙ ap (fitted base) c.self.view_is
