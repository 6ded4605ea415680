use Rattle.std.proofs.Common.{◌∙◌}
use Rattle.jade_meaning.specs.steps.Perform.{shown}
use Rattle.jade_meaning.proofs.Configurations.{resumes_as}
use Rattle.jade_meaning.proofs.configuration.onward.Goals as goal

pub returns-clause-same : goal.returns-clause-same
returns-clause-same c = λ vs. resumes_as (shown c.args.setting.now) c.args.answers.now c.args.at.now c.in_ok-next.next c.in_ok-next.ensures vs
    ∙ c.in_ok-advance.ensures.same vs
