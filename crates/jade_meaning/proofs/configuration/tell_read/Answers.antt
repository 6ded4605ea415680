use Rattle.jade_meaning.proofs.Configurations.{read_tells}
use Rattle.jade_meaning.proofs.configuration.tell_read.Goals as goal

pub returns : goal.returns
returns c = λ s. read_tells s c.args.at.now c.touch.new.at c.args.object c.args.cell c.in_ok-id.id c.in_ok-short.field-0 c.requires.0 c.in_ok-touch.ensures.told
    c.in_ok-touch.ensures.holds c.in_ok-id.ensures c.in_ok-short.ensures
