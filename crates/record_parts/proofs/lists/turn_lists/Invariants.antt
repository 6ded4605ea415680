use Rattle.record_parts.proofs.Matching.{Matched}
use Rattle.record_parts.proofs.lists.turn_lists.Given as goal

abbrev pub invariant-loop-object : goal.invariant-loop-object
invariant-loop-object l = Matched l.checked.program.items l.turns l.object l.place l.lists
