use Rattle.jade_meaning.proofs.Spreading.{spread_agrees}
use Rattle.jade_meaning.proofs.laws.spread_agrees.Goals as goal

pub returns : goal.returns
returns c = spread_agrees
