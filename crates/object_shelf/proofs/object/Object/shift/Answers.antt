use Rattle.std.proofs.Common.{ap, sym, ◌∙◌}
use Rattle.object_shelf.specs.Shelves.{with_rights}
use Rattle.object_shelf.specs.Whole.{is_out}
use Rattle.object_shelf.proofs.Wholes.{at-out}
use Rattle.object_shelf.proofs.object.Object.shift.Goals as goal

pub settle-requires-clause-kept : goal.settle-requires-clause-kept
settle-requires-clause-kept c =
    λ o. c.self.invariant.1 ∙ at-out c.args.path.now (with_rights c.args.rights) (λ e h. h) c.self.inside.shelf.queue
    (sym (ap (λ s. is_out s.queue) c.shift.ensures) ∙ o)
