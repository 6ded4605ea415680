use Rattle.std.proofs.Common.{ap, ◌∙◌, drop, length, ◌-◌}
use Rattle.jade_syntax.specs.StaticFaults.{Names}
use Rattle.jade_types.specs.steps.Scoped.{Scoped, as_names}
use Rattle.jade_types.proofs.Naming.{names_left}
use Rattle.jade_types.proofs.faults.names.Scope.leave.Goals as goal

pub returns : goal.returns
returns c =
    let items : Names = as_names c.self.inside.items.now in
    let with_locals : Names → Scoped = λ ls. record { locals = ls; items = items } in
    ap with_locals (ap as_names c.leave.ensures ∙ names_left c.self.inside.locals c.args.len)
    ∙ ap (λ (s : Scoped). record { locals = drop (length s.locals - c.args.len) s.locals; items = s.items }) c.self.view_is
