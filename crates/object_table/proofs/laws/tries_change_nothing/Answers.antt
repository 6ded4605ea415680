use Rattle.object_table.proofs.Tries.{tries_change_nothing}
use Rattle.object_table.proofs.laws.tries_change_nothing.Goals as goal

pub returns : goal.returns
returns c = tries_change_nothing
