use Rattle.std.proofs.Common.{sym, ◌∙◌}
use Rattle.std.proofs.lemmas.Bool.{true≢false}
use Rattle.task_machine.proofs.machine.untaken.Goals as goal

pub returns-then-unmarked : goal.returns-then-unmarked
returns-then-unmarked c = λ h. absurd (true≢false (sym c.if-unmarked.true ∙ h))
