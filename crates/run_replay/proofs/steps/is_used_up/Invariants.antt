use Rattle.std.proofs.Common.{◌≡◌, ℕ, ◌<◌, length}
use Rattle.jade_meaning.specs.Turns.{turns_in}
use Rattle.schedule_core.specs.Soundness.{turns_of}
use Rattle.run_replay.proofs.steps.is_used_up.Given as goal

abbrev pub invariant-loop-object : goal.invariant-loop-object
invariant-loop-object l = (o : ℕ) → o < l.object → length (turns_of l.core.shelves o) ≡ length (turns_in l.turns o)
