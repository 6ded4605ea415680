use Rattle.std.proofs.Common.{◌≡◌, ℕ, ◌≤◌, ◌<◌, false}
use Rattle.std.specs.Prelude.{slice_get}
use Rattle.jade_meaning.specs.Turns.{turns_in}
use Rattle.run_replay.specs.steps.InStep.{in_step_at}
use Rattle.run_replay.proofs.steps.first_in_step.Given as goal

abbrev pub invariant-loop-place : goal.invariant-loop-place
invariant-loop-place l = (i : ℕ) → l.low ≤ i → i < l.place → in_step_at (turns_in l.turns) l.core.shelves (slice_get l.core.roll i) ≡ false
