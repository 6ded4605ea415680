use Rattle.std.proofs.Common.{◌≡◌, ◌≤◌, drop, length}
use Rattle.task_translation.specs.Room.{calls_of, room}
use Rattle.task_codegen.proofs.slots.room.Given as goal

abbrev pub invariant-code : goal.invariant-code
invariant-code l = record {
  same : l.most ≡ room (calls_of l.bodies) l.least (drop l.left l.code);
  within : l.left ≤ length l.code;
}

abbrev pub decreases-code : goal.decreases-code
decreases-code l = l.left
