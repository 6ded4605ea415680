use Rattle.std.proofs.Common.{subst}
use Rattle.task_machine.specs.steps.Standing.{NoMarks}
use Rattle.task_machine.proofs.Quiet.{not_said}
use Rattle.task_machine.proofs.machine.mark_changed.Goals as goal

pub mark_first-requires-clause-unset : goal.mark_first-requires-clause-unset
mark_first-requires-clause-unset c = subst (λ b. NoMarks b c.args.due.now.items) c.if-unmarked.true c.requires.unset

pub returns-else-unmarked-clause-unset : goal.returns-else-unmarked-clause-unset
returns-else-unmarked-clause-unset c = not_said _
