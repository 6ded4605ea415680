use Rattle.turn_laws.proofs.Running.{used_up_full}
use Rattle.turn_laws.proofs.Spends.{full_used_up}
use Rattle.turn_laws.proofs.laws.used_up_where_full.Goals as goal

pub returns : goal.returns
returns c = λ p ns limit turns. (used_up_full p ns limit turns, full_used_up p ns limit turns)
