use Rattle.jade_meaning.proofs.Plainly.{runs_plainly}
use Rattle.jade_meaning.proofs.laws.runs_plainly.Goals as goal

pub returns : goal.returns
returns c = runs_plainly
