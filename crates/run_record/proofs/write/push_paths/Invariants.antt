use Rattle.std.proofs.Common.{◌≡◌, ◌++◌, take, map}
use Rattle.run_record.specs.Pieces.{each_after, path_text}
use Rattle.run_record.proofs.write.push_paths.Given as goal

abbrev pub invariant-loop-i : goal.invariant-loop-i
invariant-loop-i l = l.text.items ≡ l.fn.text.items ++ each_after 32 (map path_text (take l.i l.paths))
