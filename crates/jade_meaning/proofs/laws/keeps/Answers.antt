use Rattle.jade_meaning.proofs.Bounds.{keeps}
use Rattle.jade_meaning.proofs.laws.keeps.Goals as goal

pub returns : goal.returns
returns c = keeps
