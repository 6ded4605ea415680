use Prim.Native.Nat.{◌+◌, ◌*◌}
use Rattle.steal_workers.proofs.crew.+crew.Given as goal

abbrev pub decreases-crew : goal.decreases-crew
decreases-crew g l = 2 * l.rest.len

abbrev pub decreases-theirs : goal.decreases-theirs
decreases-theirs g l = 2 * l.rest.len + 1
