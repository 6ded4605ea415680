use Rattle.std.proofs.Common.{◌∙◌}
use Rattle.jade_meaning.specs.steps.Perform.{shown}
use Rattle.jade_meaning.proofs.Ending.{begun_ends}
use Rattle.jade_meaning.proofs.configuration.begun.Goals as goal

pub advance-requires : goal.advance-requires
advance-requires c =
    begun_ends (shown c.args.setting.now) c.args.scope.now c.args.spec.now c.args.body.now c.in_ok-at.at c.in_ok-at.ensures

pub returns-clause-same : goal.returns-clause-same
returns-clause-same c = λ vs. c.in_ok-at.ensures vs ∙ c.in_ok-advance.ensures.same vs
