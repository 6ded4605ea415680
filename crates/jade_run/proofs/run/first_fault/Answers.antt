use Rattle.jade_run.proofs.Deciding.{first_is}
use Rattle.jade_run.proofs.run.first_fault.Goals as goal

pub returns : goal.returns
returns c = first_is c.args.notes.now c.first.result c.first.ensures.first c.first.ensures.none c.requires
