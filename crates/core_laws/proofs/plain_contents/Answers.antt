use Rattle.jade_syntax.specs.Image.{program}
use Rattle.core_laws.proofs.PlainContents.{plain_contents}
use Rattle.core_laws.proofs.plain_contents.Goals as goal

pub returns : goal.returns
returns c =
    λ p ns limit e. plain_contents c.keeps.ensures p ns limit
    (λ turns. c.runs_plainly.ensures (program p) ns limit turns (c.without_cm.ensures (program p) ns limit turns e))
    (c.some_is_left.ensures.what p ns limit) (c.contents_by_place.ensures p ns limit) (c.entries_have_rights.ensures p ns limit)
    (c.tasks_are_serial.ensures p ns limit) (c.reads_are_serial.ensures p ns limit) (λ turns. c.without_cm.ensures (program p) ns limit turns e)
