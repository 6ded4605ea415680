use Rattle.core_laws.proofs.OnePlay.{picks_decide}
use Rattle.core_laws.proofs.picks_decide.Goals as goal

pub returns : goal.returns
returns c = picks_decide
