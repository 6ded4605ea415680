use Rattle.jade_syntax.specs.Image.{expression, reference}
use Rattle.jade_meaning.specs.steps.Perform.{shown}
use Rattle.jade_meaning.proofs.Framing.{store_goes, store_pauses}
use Rattle.jade_meaning.proofs.setting.Setting.store_transition.Goals as goal

pub returns-in-Ok : goal.returns-in-Ok
returns-in-Ok c = store_goes (shown c.args.self.now) c.args.answers.now c.args.run.now (reference c.args.target.now).place (reference c.args.target.now).cell
    (expression c.args.value.now) c.in-Ok.written c.stored.new.used c.in-Ok.ensures

pub returns-in-Err : goal.returns-in-Err
returns-in-Err c = store_pauses (shown c.args.self.now) c.args.answers.now c.args.run.now (reference c.args.target.now).place (reference c.args.target.now).cell
    (expression c.args.value.now) c.in-Err.pause c.paused.result c.paused.ensures c.in-Err.ensures
