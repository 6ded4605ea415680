use Rattle.jade_reading.proofs.ShapeNotRefused.{not_refused}
use Rattle.jade_reading.proofs.laws.spelled_is_not_refused.Goals as goal

pub returns : goal.returns
returns c = not_refused
