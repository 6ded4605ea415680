use Rattle.turn_laws.proofs.Turning.{turn_is_told}
use Rattle.turn_laws.proofs.laws.turn_is_told.Goals as goal

pub returns : goal.returns
returns c = λ p ns limit turns. turn_is_told p ns limit turns (c.keeps.ensures p ns limit) (c.talk_follows_serial.ensures p ns limit turns)
