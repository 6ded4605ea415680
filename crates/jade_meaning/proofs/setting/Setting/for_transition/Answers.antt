use Rattle.std.proofs.Common.{◌∙◌}
use Rattle.jade_syntax.specs.Image.{expression, block}
use Rattle.jade_meaning.specs.steps.Perform.{shown}
use Rattle.jade_meaning.specs.steps.Perform.{mine_of}
use Rattle.jade_meaning.proofs.Framing.{for_goes, pushed_goes, for_pauses}
use Rattle.jade_meaning.proofs.setting.Setting.for_transition.Goals as goal

pub returns-in_ok-push-in-Ok : goal.returns-in_ok-push-in-Ok
returns-in_ok-push-in-Ok c =
    for_goes (shown c.args.self.now) c.args.answers.now c.args.run.now c.args.name.now (expression c.args.range.0.now) (expression c.args.range.1.now)
    (block c.args.body.now) c.in-Ok.range c.bounds.new.used c.in-Ok.ensures
    ∙ pushed_goes (shown c.args.self.now) c.args.answers.now c.args.run.now _ c.push.new.self.items c.bounds.new.used (mine_of c.args.run.now.task)
    c.in_ok-push-in-Ok.ensures.items

pub returns-in-Err : goal.returns-in-Err
returns-in-Err c = for_pauses (shown c.args.self.now) c.args.answers.now c.args.run.now c.args.name.now (expression c.args.range.0.now)
    (expression c.args.range.1.now) (block c.args.body.now) c.in-Err.pause c.paused.result c.paused.ensures c.in-Err.ensures
