use Rattle.std.proofs.Common.{rules, ◌≡◌, ap, ◌∙◌}
use Rattle.object_table.specs.Views.{View}
use Rattle.object_table.specs.steps.Kept.{shown}
use Rattle.object_table.proofs.Calls.{path_is}
use Rattle.object_table.proofs.pass.TaskPass.path.Goals as goal

pub returns : goal.returns
returns c =
    let e : shown c.self.inside.task ≡ c.args.self.now.shows = search rules in
    path_is c.self.inside.task c.self.invariant ∙ ap (λ (v : View). v.seat.path) e
