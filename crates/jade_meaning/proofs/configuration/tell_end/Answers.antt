use Rattle.jade_meaning.proofs.Configurations.{end_tells}
use Rattle.jade_meaning.proofs.configuration.tell_end.Goals as goal

pub returns : goal.returns
returns c = λ s. end_tells s c.args.at.now c.args.blame c.tell.new.events.items c.tell-2.new.events.items c.push.new.self.items c.requires.0
    c.in_ok-tell.ensures c.in_ok-tell-2.ensures c.in_ok-push.ensures.items
