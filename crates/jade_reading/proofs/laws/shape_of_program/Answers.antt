use Rattle.jade_reading.proofs.ShapeOfProgram.{sound_of, sound_from, count_is}
use Rattle.jade_reading.proofs.laws.shape_of_program.Goals as goal

pub returns-clause-count : goal.returns-clause-count
returns-clause-count c = count_is

pub returns-clause-sound : goal.returns-clause-sound
returns-clause-sound c = sound_of

pub returns-clause-shaped : goal.returns-clause-shaped
returns-clause-shaped c = sound_from
