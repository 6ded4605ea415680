use Rattle.schedule_core.proofs.laws.in_serial_order.Goals as goal

pub returns : goal.returns
returns c = λ p ns limit. (c.core_is_sound.ensures p ns limit).order
