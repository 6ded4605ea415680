use Rattle.turn_laws.proofs.Running.{spends_as_it_runs}
use Rattle.turn_laws.proofs.laws.spends_as_it_runs.Goals as goal

pub returns : goal.returns
returns c = spends_as_it_runs
