use Rattle.jade_reading.proofs.Same.{program_alike}
use Rattle.jade_reading.proofs.laws.spelled_alike.Goals as goal

pub returns : goal.returns
returns c = program_alike
