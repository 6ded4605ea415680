use Rattle.std.proofs.Common.{◌∙◌, ap}
use Rattle.object_shelf.specs.Whole.{untaken}
use Rattle.schedule_core.proofs.OnShelves.{untaken_taken}
use Rattle.schedule_core.proofs.steps.take_from.Goals as goal

pub returns-in-Err-clause-unchanged : goal.returns-in-Err-clause-unchanged
returns-in-Err-clause-unchanged c =
    let p = c.args.seat.now.path in
    let v = c.in_ok-before.before.version in
    c.untake.ensures ∙ ap (λ m. untaken p m v c.take.new.self) c.in_ok-before.ensures.mode ∙ ap (untaken p c.args.mode v) c.in_ok-before.ensures.done
    ∙ untaken_taken p c.args.mode v c.args.shelf.now c.in_ok-before.ensures.before
