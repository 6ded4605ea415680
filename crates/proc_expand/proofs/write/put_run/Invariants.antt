use Rattle.std.proofs.Common.{◌-◌}
use Rattle.proc_expand.specs.steps.Sources.{RunsOn}
use Rattle.proc_expand.proofs.write.put_run.Given as goal

abbrev pub invariant-running : goal.invariant-running
invariant-running l = RunsOn l.tokens.lexemes l.tokens.end l.source.outer.items l.initial.pen l.fn.frame l.pen l.rest

abbrev pub decreases-running : goal.decreases-running
decreases-running l = l.rest.stop - l.rest.next
