use Rattle.core_laws.proofs.ReadOrder.{reads_stand_by_key}
use Rattle.core_laws.proofs.reads_stand_by_key.Goals as goal

pub returns : goal.returns
returns c = λ p ns limit turns. reads_stand_by_key c.keeps.ensures p ns limit turns
