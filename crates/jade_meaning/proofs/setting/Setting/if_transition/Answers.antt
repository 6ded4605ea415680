use Rattle.std.proofs.Common.{sym, ◌∙◌}
use Rattle.jade_syntax.specs.Image.{expression}
use Rattle.jade_meaning.specs.steps.Perform.{shown}
use Rattle.jade_meaning.specs.steps.Frames.{frames_on}
use Rattle.jade_meaning.proofs.Framing.{if_goes, if_pauses, holds_goes, fails_goes, other_goes, entered_goes}
use Rattle.jade_meaning.proofs.setting.Setting.if_transition.Goals as goal

pub returns-then-holds : goal.returns-then-holds
returns-then-holds c =
    let s = shown c.args.self.now in
    if_goes (shown c.args.self.now) c.args.answers.now c.args.run.now (expression c.args.test.now) c.args.then.now c.args.otherwise.now c.in-Ok.value
    c.evaluate.new.used c.in-Ok.ensures
    ∙ holds_goes (shown c.args.self.now) c.args.answers.now c.args.run.now c.args.then.now c.args.otherwise.now c.in-Ok.value c.evaluate.new.used
    (sym c.holds.ensures ∙ c.if-holds.true)
    ∙ entered_goes (shown c.args.self.now) c.args.answers.now c.args.run.now c.args.then.now c.evaluate.new.used (frames_on s c.args.run.now.frames.items)
    c.enter.new.run (c.in_ok-enter-in-Ok.ensures.0 s) c.in_ok-enter-in-Ok.ensures.1 c.in_ok-enter-in-Ok.ensures.2

pub returns-in-None : goal.returns-in-None
returns-in-None c =
    if_goes (shown c.args.self.now) c.args.answers.now c.args.run.now (expression c.args.test.now) c.args.then.now c.args.otherwise.now c.in-Ok.value
    c.evaluate.new.used c.in-Ok.ensures
    ∙ fails_goes (shown c.args.self.now) c.args.answers.now c.args.run.now c.args.then.now c.args.otherwise.now c.in-Ok.value c.evaluate.new.used c.in-None.is
    (sym c.holds.ensures ∙ c.if-holds.false)

pub returns-in_ok-enter-in-Some : goal.returns-in_ok-enter-in-Some
returns-in_ok-enter-in-Some c =
    let s = shown c.args.self.now in
    if_goes (shown c.args.self.now) c.args.answers.now c.args.run.now (expression c.args.test.now) c.args.then.now c.args.otherwise.now c.in-Ok.value
    c.evaluate.new.used c.in-Ok.ensures
    ∙ other_goes (shown c.args.self.now) c.args.answers.now c.args.run.now c.args.then.now c.in-Some.block c.args.otherwise.now c.in-Ok.value
    c.evaluate.new.used c.in-Some.is (sym c.holds.ensures ∙ c.if-holds.false)
    ∙ entered_goes (shown c.args.self.now) c.args.answers.now c.args.run.now c.in-Some.block c.evaluate.new.used (frames_on s c.args.run.now.frames.items)
    c.enter-in-Some.new.run (c.in_ok-enter-in-Some.ensures.0 s) c.in_ok-enter-in-Some.ensures.1 c.in_ok-enter-in-Some.ensures.2

pub returns-in-Err : goal.returns-in-Err
returns-in-Err c = if_pauses (shown c.args.self.now) c.args.answers.now c.args.run.now (expression c.args.test.now) c.args.then.now c.args.otherwise.now
    c.in-Err.pause c.paused.result c.paused.ensures c.in-Err.ensures
