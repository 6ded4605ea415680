use Rattle.std.proofs.Common.{ap, ◌∙◌, drop, length, ◌-◌}
use Rattle.jade_meaning.specs.steps.Scopes.{in_scope}
use Rattle.jade_syntax.proofs.Newest.{left_with}
use Rattle.jade_meaning.specs.steps.Scopes.{binding}
use Rattle.jade_meaning.proofs.scope.Scope.leave.Goals as goal

pub returns : goal.returns
returns c = ap in_scope c.truncate.ensures.items ∙ left_with binding c.self.inside.bounds.items c.args.len
    ∙ ap (λ e. drop (length e - c.args.len) e) c.self.view_is
