use Rattle.jade_syntax.specs.Image.{object}
use Rattle.jade_meaning.specs.steps.Perform.{shown}
use Rattle.jade_meaning.proofs.Framing.{declare_goes, declare_stops, declare_pauses}
use Rattle.jade_meaning.proofs.setting.Setting.declare_transition.Goals as goal

pub returns-in-Ok-declare : goal.returns-in-Ok-declare
returns-in-Ok-declare c = declare_goes (shown c.args.self.now) c.args.answers.now c.args.run.now c.args.word c.args.at (object c.args.of.now) c.in-Ok.found
    c.evaluate_object.new.used c.declare.new.self c.in-Ok.ensures c.in-Ok-declare.ensures

pub returns-in-Err-declare : goal.returns-in-Err-declare
returns-in-Err-declare c = declare_stops (shown c.args.self.now) c.args.answers.now c.args.run.now c.args.word c.args.at (object c.args.of.now) c.in-Ok.found
    c.evaluate_object.new.used c.in-Err-declare.blame c.in-Ok.ensures c.in-Err-declare.ensures.0

pub returns-in-Err : goal.returns-in-Err
returns-in-Err c = declare_pauses (shown c.args.self.now) c.args.answers.now c.args.run.now c.args.word c.args.at (object c.args.of.now) c.in-Err.pause
    c.paused.result c.paused.ensures c.in-Err.ensures
