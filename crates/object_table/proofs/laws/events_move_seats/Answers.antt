use Rattle.object_table.proofs.Tries.{events_move_seats}
use Rattle.object_table.proofs.laws.events_move_seats.Goals as goal

pub returns : goal.returns
returns c = λ key. events_move_seats key (c.core_laws.ensures key)
