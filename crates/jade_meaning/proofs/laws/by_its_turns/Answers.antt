use Rattle.jade_meaning.proofs.OwnTurns.{by_its_turns}
use Rattle.jade_meaning.proofs.laws.by_its_turns.Goals as goal

pub returns : goal.returns
returns c = by_its_turns
