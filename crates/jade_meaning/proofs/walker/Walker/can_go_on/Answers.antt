use Rattle.std.proofs.Common.{sym, ◌∙◌}
use Rattle.jade_meaning.specs.Walk.{upcoming}
use Rattle.jade_meaning.proofs.Walking.{can_pass, cannot_pass}
use Rattle.jade_meaning.proofs.walker.Walker.can_go_on.Goals as goal

pub returns-clause-can : goal.returns-clause-can
returns-clause-can c = λ h. can_pass c.args.value (upcoming c.args.self.now) c.carried.result c.carried.ensures.told c.carried.ensures.unanswered
    (sym c.goes_with.ensures ∙ h)

pub returns-clause-cannot : goal.returns-clause-cannot
returns-clause-cannot c = λ h. cannot_pass c.args.value (upcoming c.args.self.now) c.carried.result c.carried.ensures.told c.carried.ensures.unanswered
    (sym c.goes_with.ensures ∙ h)
