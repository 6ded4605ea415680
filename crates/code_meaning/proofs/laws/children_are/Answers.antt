use Rattle.code_meaning.proofs.Numbered.{children_are}
use Rattle.code_meaning.proofs.laws.children_are.Goals as goal

pub returns : goal.returns
returns c = children_are
