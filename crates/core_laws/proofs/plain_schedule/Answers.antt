use Rattle.jade_syntax.specs.Image.{program}
use Rattle.core_laws.proofs.PlainSchedule.{plain_schedule}
use Rattle.core_laws.proofs.Uncommuting.{takes_plainly}
use Rattle.core_laws.proofs.plain_schedule.Goals as goal

pub returns : goal.returns
returns c =
    λ p ns limit e. plain_schedule p ns limit
    (λ turns. c.runs_plainly.ensures (program p) ns limit turns (c.without_cm.ensures (program p) ns limit turns e))
    (c.never_stuck.ensures p ns limit) (c.bounded.ensures p ns limit)
    (takes_plainly c.keeps.ensures p ns limit (c.tasks_are_serial.ensures p ns limit) (λ turns. c.without_cm.ensures (program p) ns limit turns e))
