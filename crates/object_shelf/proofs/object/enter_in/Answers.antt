use Rattle.std.proofs.Common.{ap, ◌∙◌}
use Rattle.object_shelf.specs.Order.{fitted_in}
use Rattle.object_shelf.specs.Whole.{is_out}
use Rattle.object_shelf.proofs.Order.{fitted-in}
use Rattle.object_shelf.proofs.Wholes.{fitted-same}
use Rattle.object_shelf.proofs.object.enter_in.Goals as goal

pub returns-clause-queue : goal.returns-clause-queue
returns-clause-queue c =
    ap (λ s. s.queue) c.in_ok-enter.ensures.done
    ∙ ap (λ k. fitted_in c.args.parent.now k c.args.rights c.args.shelf.now.queue) c.in_ok-copy.ensures
    ∙ fitted-in c.args.parent.now c.args.child.now c.args.rights c.args.shelf.now.queue c.requires

pub returns-clause-out : goal.returns-clause-out
returns-clause-out c = ap (λ s. is_out s.queue) c.in_ok-enter.ensures.done
    ∙ fitted-same c.args.parent.now c.in_ok-copy.field-0 c.args.rights c.args.shelf.now.queue
