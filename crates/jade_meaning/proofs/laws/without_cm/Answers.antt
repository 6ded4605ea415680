use Rattle.jade_meaning.proofs.Plainly.{without_cm}
use Rattle.jade_meaning.proofs.laws.without_cm.Goals as goal

pub returns : goal.returns
returns c = without_cm
