use Rattle.std.proofs.Common.{◌≡◌, ◌++◌, ◌≤◌, map, drop, length}
use Rattle.jade_meaning.specs.Course.{copied}
use Rattle.jade_meaning.proofs.setting.Setting.copied.Given as goal

abbrev pub invariant-loop-left : goal.invariant-loop-left
invariant-loop-left l = record {
  copied : l.scope ≡ copied (map (λ n. n.name) (drop l.left l.names)) l.task.scope ++ l.self.given;
  within : l.left ≤ length l.names;
}

abbrev pub decreases-loop-left : goal.decreases-loop-left
decreases-loop-left l = l.left
