use Rattle.proc_laws.proofs.TokensToSource.{tokens_do}
use Rattle.proc_laws.proofs.laws.tokens_do_as_their_source.Goals as goal

pub returns : goal.returns
returns c = tokens_do c.erased_is_program.ensures c.one_tree.ensures
