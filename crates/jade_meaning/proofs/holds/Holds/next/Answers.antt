use Rattle.std.proofs.Common.{◌++◌, ◌∷◌, [], ap, ◌∙◌}
use Rattle.std.specs.Prelude.{Option, ℕ}
use Rattle.jade_base.specs.declared.rights.Mode.{Mode}
use Rattle.jade_meaning.specs.steps.Holding.{kept_on}
use Rattle.jade_meaning.proofs.Listing.{kept_more, kept_same}
use Rattle.jade_meaning.proofs.holds.Holds.next.Goals as goal

pub loop-object-preserved : goal.loop-object-preserved
loop-object-preserved c =
    let f : ℕ → Option Mode = λ o. kept_on c.args.kind c.args.old.now c.args.new.now c.args.self.now o in
    kept_more f c.loop-object.modes.items c.push.new.self.items c.loop-object.object
    (c.in_ok-push.ensures.items ∙ ap (λ x. c.loop-object.modes.items ++ x ∷ []) (c.kept_as.ensures
    ∙ kept_same c.args.kind _ _ _ _ _ _ c.on.ensures c.on-in-loop-object.ensures c.on-in-loop-object-2.ensures))
    c.loop-object.invariant
