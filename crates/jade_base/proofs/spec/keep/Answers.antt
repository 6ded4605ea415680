use Rattle.jade_base.proofs.Drafts.{kept-settled}
use Rattle.jade_base.proofs.spec.keep.Goals as goal

pub returns-else-drafted : goal.returns-else-drafted
returns-else-drafted c = kept-settled c.args.entries.now.items c.requires.ascending (c.requires.settled c.if-drafted.false)
