use Rattle.jade_meaning.proofs.Stops.{parts_stand_by_key}
use Rattle.jade_meaning.proofs.laws.parts_stand_by_key.Goals as goal

pub returns : goal.returns
returns c = parts_stand_by_key
