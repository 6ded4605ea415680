use Rattle.record_parts.proofs.Rooted.{turns_are_rooted}
use Rattle.record_parts.proofs.laws.turns_are_rooted.Goals as goal

pub returns : goal.returns
returns c = turns_are_rooted
