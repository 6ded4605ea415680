use Rattle.jade_syntax.specs.Image.{expression}
use Rattle.jade_meaning.specs.steps.Perform.{shown}
use Rattle.jade_meaning.proofs.Framing.{local_goes, local_pauses}
use Rattle.jade_meaning.proofs.setting.Setting.local_transition.Goals as goal

pub returns-in_ok-bind-in-Ok : goal.returns-in_ok-bind-in-Ok
returns-in_ok-bind-in-Ok c = λ kind. local_goes (shown c.args.self.now) c.args.answers.now c.args.run.now kind c.args.name.now (expression c.args.value.now)
    c.in-Ok.value c.evaluate.new.used c.bind.new.self c.in-Ok.ensures c.in_ok-bind-in-Ok.ensures

pub returns-in-Err : goal.returns-in-Err
returns-in-Err c = λ kind. local_pauses (shown c.args.self.now) c.args.answers.now c.args.run.now kind c.args.name.now (expression c.args.value.now)
    c.in-Err.pause c.paused.result c.paused.ensures c.in-Err.ensures
