use Rattle.jade_syntax.specs.Image.{program}
use Rattle.schedule_core.proofs.Plainly.{plain_core}
use Rattle.schedule_core.proofs.laws.plain_core.Goals as goal

pub returns : goal.returns
returns c =
    λ p ns limit e. plain_core p ns limit (c.core_is_sound.ensures p ns limit)
    (λ turns. (c.runs_plainly.ensures (program p) ns limit turns (c.without_cm.ensures (program p) ns limit turns e)).marks)
