use Rattle.std.proofs.Common.{ap, ◌∙◌, drop, length, ◌-◌}
use Rattle.task_translation.specs.Compile.{Scope}
use Rattle.task_codegen.specs.Bodies.{InBody}
use Rattle.task_codegen.specs.Variables.{in_scope}
use Rattle.task_codegen.proofs.Naming.{left_with}
use Rattle.task_codegen.proofs.names.Names.leave.Goals as goal

pub returns : goal.returns
returns c =
    let of : Scope → InBody = λ vs. record { items = c.self.inside.ranges.now; kept = c.self.inside.kept.items; scope = vs; next = c.args.next } in
    let shorter : InBody → InBody = λ b. record { items = b.items; kept = b.kept; scope = drop (length b.scope - c.args.len) b.scope; next = c.args.next } in
    ap of (ap in_scope c.leave.ensures ∙ left_with c.self.inside.variables c.args.len) ∙ ap shorter c.self.view_is
