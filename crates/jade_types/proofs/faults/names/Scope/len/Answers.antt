use Rattle.std.proofs.Common.{length, ap, ◌∙◌}
use Rattle.jade_types.specs.steps.Scoped.{Scoped}
use Rattle.jade_types.proofs.Naming.{names_counted}
use Rattle.jade_types.proofs.faults.names.Scope.len.Goals as goal

pub returns : goal.returns
returns c = c.len.ensures ∙ names_counted c.self.inside.locals ∙ ap (λ (s : Scoped). length s.locals) c.self.view_is
