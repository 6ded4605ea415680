use Rattle.std.proofs.Common.{length, ap, ◌∙◌}
use Rattle.task_codegen.specs.Bodies.{InBody}
use Rattle.task_codegen.proofs.Naming.{counted}
use Rattle.task_codegen.proofs.names.Names.len.Goals as goal

pub returns : goal.returns
returns c = c.len.ensures ∙ counted c.self.inside.variables ∙ ap (λ (b : InBody). length b.scope) c.self.view_is
