use Rattle.std.proofs.Common.{◌≤◌, length}
use Rattle.proc_expand.specs.steps.Brackets.{AreEndsFrom}
use Rattle.proc_expand.proofs.brackets.ends.Given as goal

abbrev pub invariant-opening : goal.invariant-opening
invariant-opening l = record { within : l.place ≤ length l.signs; known : AreEndsFrom l.signs l.found.items l.place }

abbrev pub decreases-opening : goal.decreases-opening
decreases-opening l = l.place
