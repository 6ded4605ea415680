use Rattle.std.proofs.Common.{◌≡◌, ◌≤◌, List, drop, length}
use Rattle.std.specs.Prelude.{ℤ}
use Rattle.code_meaning.specs.Meaning.{given_slots, passed}
use Rattle.task_machine.specs.Stages.{slots_of}
use Rattle.task_machine.proofs.slots.give_call.Given as goal

abbrev pub invariant-call : goal.invariant-call
invariant-call l = record {
  filled : (zs : List ℤ) → length zs ≡ l.inputs → slots_of l.fn.slots.items ≡ given_slots zs → slots_of l.slots.items
      ≡ passed zs (drop l.left l.call) (slots_of l.frame.slots.items);
  long : length l.slots.items ≡ length l.fn.slots.items;
  within : l.left ≤ length l.call;
}

abbrev pub decreases-call : goal.decreases-call
decreases-call l = l.left
