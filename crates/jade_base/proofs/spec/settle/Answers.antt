use Rattle.jade_base.proofs.Drafts.{settled-is}
use Rattle.jade_base.proofs.spec.settle.Goals as goal

pub returns-else-drafted : goal.returns-else-drafted
returns-else-drafted c = settled-is c.args.entries.now.items (c.requires c.if-drafted.false)
