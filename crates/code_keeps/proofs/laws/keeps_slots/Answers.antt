use Rattle.code_keeps.proofs.Rooms.{keeps_slots}
use Rattle.code_keeps.proofs.laws.keeps_slots.Goals as goal

pub returns : goal.returns
returns c = keeps_slots
