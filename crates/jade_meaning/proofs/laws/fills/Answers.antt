use Rattle.jade_meaning.proofs.Filling.{fill_full}
use Rattle.jade_meaning.proofs.laws.fills.Goals as goal

pub returns : goal.returns
returns c = fill_full
