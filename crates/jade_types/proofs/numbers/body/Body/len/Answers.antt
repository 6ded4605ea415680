use Rattle.std.proofs.Common.{length, ap, ◌∙◌}
use Rattle.jade_types.specs.steps.Bodies.{InBody}
use Rattle.jade_types.proofs.Scoping.{slots_counted}
use Rattle.jade_types.proofs.numbers.body.Body.len.Goals as goal

pub returns : goal.returns
returns c = c.len.ensures ∙ slots_counted c.self.inside.variables ∙ ap (λ (b : InBody). length b.variables) c.self.view_is
