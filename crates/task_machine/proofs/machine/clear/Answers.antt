use Rattle.task_machine.proofs.machine.clear.Goals as goal

pub returns-then-unmarked : goal.returns-then-unmarked
returns-then-unmarked c = c.requires.none c.if-unmarked.true
