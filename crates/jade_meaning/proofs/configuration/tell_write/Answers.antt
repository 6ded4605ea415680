use Rattle.std.proofs.Common.{◌++◌, ◌∷◌, [], ap, ◌∙◌}
use Rattle.jade_meaning.specs.declared.holds.PendingEvent.{PendingEvent}
use Rattle.jade_meaning.proofs.Configurations.{write_tells}
use Rattle.jade_meaning.proofs.configuration.tell_write.Goals as goal

pub returns : goal.returns
returns c = λ s. write_tells s c.args.at.now c.touch.new.at c.args.written c.in_ok-id.id c.in_ok-cell.cell c.push.new.self.items c.requires.0 c.requires.1
    c.in_ok-touch.ensures.told c.in_ok-touch.ensures.holds c.in_ok-id.ensures c.in_ok-cell.ensures (c.in_ok-push.ensures.items
    ∙ ap (λ (e : PendingEvent). c.touch.new.at.pending.items ++ e ∷ []) c.write_of.ensures)
