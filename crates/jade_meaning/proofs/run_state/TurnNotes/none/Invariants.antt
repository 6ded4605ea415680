use Rattle.std.proofs.Common.{◌≡◌, replicate, []}
use Rattle.jade_meaning.proofs.run_state.TurnNotes.none.Given as goal

abbrev pub invariant-loop : goal.invariant-loop
invariant-loop l = l.lists.items ≡ replicate l.counter []
