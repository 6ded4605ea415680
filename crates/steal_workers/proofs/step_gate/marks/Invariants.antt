use Rattle.std.proofs.Common.{◌≡◌, vec_len}
use Rattle.steal_workers.proofs.step_gate.marks.Given as goal

abbrev pub invariant-loop : goal.invariant-loop
invariant-loop l = vec_len l.marks ≡ l.counter
