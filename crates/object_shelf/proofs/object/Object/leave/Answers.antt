use Rattle.std.proofs.Common.{ap, sym, ◌∙◌}
use Rattle.object_shelf.specs.Whole.{is_out}
use Rattle.object_shelf.proofs.Wholes.{without-out}
use Rattle.object_shelf.proofs.object.Object.leave.Goals as goal

pub settle-requires-clause-kept : goal.settle-requires-clause-kept
settle-requires-clause-kept c =
    λ o. c.self.invariant.1 ∙ without-out c.args.path.now c.self.inside.shelf.queue (sym (ap (λ s. is_out s.queue) c.leave.ensures) ∙ o)
