use Rattle.std.proofs.Common.{sym, ap, ◌∙◌}
use Rattle.jade_meaning.specs.Talk.{held}
use Rattle.task_machine.specs.Playing.{contents_of}
use Rattle.task_machine.specs.Machines.{holds_at}
use Rattle.task_machine.proofs.Marks.{hold_at, hold_past}
use Rattle.task_machine.proofs.execution.Execution.hold_in_row.Goals as goal

pub returns-then-object-self : goal.returns-then-object-self
returns-then-object-self c =
    let e = c.self.inside in
    c.mode_at.ensures ∙ sym (hold_at e.own.objects (contents_of e.held) c.args.object.0 c.if-object-self.true)
    ∙ ap (λ x. held (holds_at x) c.args.object.0) c.self.view_is

pub returns-else-object-self : goal.returns-else-object-self
returns-else-object-self c =
    let e = c.self.inside in
    sym (hold_past e.own.objects (contents_of e.held) c.args.object.0 c.if-object-self.false)
    ∙ ap (λ x. held (holds_at x) c.args.object.0) c.self.view_is
