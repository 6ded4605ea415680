use Rattle.jade_meaning.specs.steps.Perform.{shown}
use Rattle.jade_meaning.proofs.Configurations.{creation_tells}
use Rattle.jade_meaning.proofs.setting.Setting.tell_creation.Goals as goal

pub returns : goal.returns
returns c = creation_tells (shown c.args.self.now) c.args.at.now c.args.newborn c.in_ok-at.field-0 c.tell.new.events.items c.tell-2.new.events.items
    c.push.new.self.items c.requires.0 c.requires.1 c.in_ok-tell.ensures c.in_ok-tell-2.ensures c.in_ok-push.ensures.items c.in_ok-at.ensures
