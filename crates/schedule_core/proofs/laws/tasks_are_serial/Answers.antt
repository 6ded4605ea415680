use Rattle.schedule_core.proofs.laws.tasks_are_serial.Goals as goal

pub returns : goal.returns
returns c = λ p ns limit. (c.core_is_sound.ensures p ns limit).tasks
