use Rattle.proc_laws.proofs.TreeImages.{expanded_seen}
use Rattle.proc_laws.proofs.laws.tree_is_the_expansion.Goals as goal

pub returns : goal.returns
returns c = expanded_seen c.erased_is_program.ensures
