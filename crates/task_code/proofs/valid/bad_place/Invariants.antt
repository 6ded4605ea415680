use Rattle.task_code.proofs.Keeping.{NoneBefore}
use Rattle.task_code.proofs.valid.bad_place.Given as goal

abbrev pub invariant-places : goal.invariant-places
invariant-places l = NoneBefore l.raw l.own l.body l.place
