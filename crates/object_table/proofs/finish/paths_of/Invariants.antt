use Rattle.std.proofs.Common.{◌≡◌, take}
use Rattle.object_table.proofs.finish.paths_of.Given as goal

abbrev pub invariant-loop-path : goal.invariant-loop-path
invariant-loop-path l = l.list ≡ take l.path-index l.paths
