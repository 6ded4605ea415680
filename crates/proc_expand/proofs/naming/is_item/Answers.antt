use Rattle.std.proofs.Common.{sym}
use Rattle.proc_expand.proofs.NameLists.{there, not_there}
use Rattle.proc_expand.proofs.naming.is_item.Goals as goal

pub returns-in-Some : goal.returns-in-Some
returns-in-Some c = sym (there c.args.items.now c.args.name.now _ c.in-Some.ensures)

pub returns-in-None : goal.returns-in-None
returns-in-None c = sym (not_there c.args.items.now c.args.name.now c.in-None.ensures)
