use Rattle.std.proofs.Common.{◌∙◌, rules}
use Rattle.jade_meaning.specs.steps.Perform.{shown}
use Rattle.jade_meaning.proofs.Framing.{popped_goes, none_goes}
use Rattle.jade_meaning.proofs.setting.Setting.transition.Goals as goal

pub returns-in-None : goal.returns-in-None
returns-in-None c = none_goes (shown c.args.self.now) c.args.answers.now c.args.run.now (search rules)

pub returns-in_ok-transition-in-Some : goal.returns-in_ok-transition-in-Some
returns-in_ok-transition-in-Some c = popped_goes (shown c.args.self.now) c.args.answers.now c.args.run.now c.pop.new.self.items c.in-Some.frame
    c.in-Some.ensures.items ∙ c.in_ok-transition-in-Some.ensures
