use Rattle.jade_syntax.specs.Image.{expression}
use Rattle.jade_meaning.specs.steps.Perform.{shown}
use Rattle.jade_meaning.proofs.Framing.{assign_goes, assign_pauses}
use Rattle.jade_meaning.proofs.setting.Setting.assign_transition.Goals as goal

pub returns-in-Ok : goal.returns-in-Ok
returns-in-Ok c = assign_goes (shown c.args.self.now) c.args.answers.now c.args.run.now c.args.name.now (expression c.args.value.now) c.in-Ok.value
    c.evaluate.new.used c.assign.new.self c.in-Ok.ensures c.assign.ensures

pub returns-in-Err : goal.returns-in-Err
returns-in-Err c = assign_pauses (shown c.args.self.now) c.args.answers.now c.args.run.now c.args.name.now (expression c.args.value.now) c.in-Err.pause
    c.paused.result c.paused.ensures c.in-Err.ensures
