use Rattle.std.proofs.Common.{◌≡◌, take}
use Rattle.schedule_core.proofs.notes.paths_of.Given as goal

abbrev pub invariant-loop-path : goal.invariant-loop-path
invariant-loop-path l = l.list ≡ take l.path-index l.paths
