use Rattle.code_meaning.proofs.Numbered.{root_is}
use Rattle.code_meaning.proofs.laws.root_is.Goals as goal

pub returns : goal.returns
returns c = root_is
