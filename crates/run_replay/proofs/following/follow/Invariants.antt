use Rattle.std.proofs.Common.{◌-◌}
use Rattle.jade_syntax.specs.Image.{program}
use Rattle.jade_meaning.specs.Turns.{turns_in}
use Rattle.schedule_core.specs.Counts.{total}
use Rattle.run_replay.proofs.Runs.{Following}
use Rattle.run_replay.proofs.following.follow.Given as goal

abbrev pub invariant-events : goal.invariant-events
invariant-events l = Following l.checked.program l.numbers l.limit (turns_in l.turns) l.core

abbrev pub decreases-events : goal.decreases-events
decreases-events l = total (program l.checked.program) l.numbers l.limit (turns_in l.turns) - l.core.done
