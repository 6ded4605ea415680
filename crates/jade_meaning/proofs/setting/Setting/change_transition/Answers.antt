use Rattle.jade_meaning.specs.steps.Perform.{shown}
use Rattle.jade_meaning.proofs.Framing.{change_goes}
use Rattle.jade_meaning.proofs.setting.Setting.change_transition.Goals as goal

pub returns : goal.returns
returns c = λ vs. change_goes (shown c.args.self.now) vs c.args.run.now c.end_amending.new.task c.in_ok-new.new c.in_ok-end_amending.ensures c.in_ok-new.ensures
