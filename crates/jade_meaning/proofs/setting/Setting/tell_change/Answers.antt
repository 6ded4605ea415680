use Rattle.jade_meaning.specs.steps.Perform.{shown}
use Rattle.jade_meaning.proofs.Configurations.{change_tells}
use Rattle.jade_meaning.proofs.setting.Setting.tell_change.Goals as goal

pub returns : goal.returns
returns c = change_tells (shown c.args.self.now) c.args.at.now c.args.new c.in_ok-at.field-0 c.tell.new.events.items c.tell-2.new.events.items
    c.tell-3.new.events.items c.requires.0 c.requires.1 c.in_ok-tell.ensures c.in_ok-tell-2.ensures c.in_ok-tell-3.ensures c.in_ok-at.ensures
