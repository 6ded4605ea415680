use Rattle.std.proofs.Common.{ap, ◌∙◌, drop, length, ◌-◌}
use Rattle.jade_syntax.specs.Numbering.{Scope}
use Rattle.jade_types.specs.steps.Bodies.{InBody, as_scope, in_slots}
use Rattle.jade_types.proofs.Scoping.{slots_left}
use Rattle.jade_types.proofs.numbers.body.Body.leave.Goals as goal

pub returns : goal.returns
returns c =
    let of : Scope → InBody = λ vs. record { variables = vs; items = as_scope c.self.inside.items.now; slots = c.self.inside.slots } in
    let shorter : InBody → InBody = λ b. record { variables = drop (length b.variables - c.args.len) b.variables; items = b.items; slots = b.slots } in
    ap of (ap in_slots c.leave.ensures ∙ slots_left c.self.inside.variables c.args.len) ∙ ap shorter c.self.view_is
