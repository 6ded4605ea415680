use Rattle.std.proofs.Common.{◌≡◌, ◌≤◌, drop, length}
use Rattle.code_meaning.specs.Meaning.{given_slots}
use Rattle.task_machine.specs.Stages.{slots_of}
use Rattle.task_machine.proofs.slots.give_inputs.Given as goal

abbrev pub invariant-inputs : goal.invariant-inputs
invariant-inputs l = record {
  filled : slots_of l.slots.items ≡ given_slots (drop l.left l.numbers);
  long : length l.slots.items ≡ length l.fn.slots.items;
  within : l.left ≤ length l.numbers;
}

abbrev pub decreases-inputs : goal.decreases-inputs
decreases-inputs l = l.left
