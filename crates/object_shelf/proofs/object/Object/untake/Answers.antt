use Rattle.std.proofs.Common.{ap, sym, ◌∙◌}
use Rattle.object_shelf.specs.Whole.{reset}
use Rattle.object_shelf.specs.Whole.{is_out}
use Rattle.object_shelf.proofs.Wholes.{at-out}
use Rattle.object_shelf.proofs.object.Object.untake.Goals as goal

pub settle-requires-clause-kept : goal.settle-requires-clause-kept
settle-requires-clause-kept c =
    λ o. c.self.invariant.1 ∙ at-out c.args.path.now (reset c.args.before.version) (λ e h. absurd (cc)) c.self.inside.shelf.queue
    (sym (ap (λ s. is_out s.queue) c.restore.ensures) ∙ o)
