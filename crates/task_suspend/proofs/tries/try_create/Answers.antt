use Rattle.task_suspend.proofs.tries.try_create.Goals as goal

pub enter-requires-clause-table : goal.enter-requires-clause-table
enter-requires-clause-table g c = c.requires.table

pub enter-requires-clause-asked : goal.enter-requires-clause-asked
enter-requires-clause-asked g c = c.requires.asked

pub enter-requires-clause-inside : goal.enter-requires-clause-inside
enter-requires-clause-inside g c = rw c.deref-task.ensures at c.in-Some.ensures.within

pub enter-requires-clause-entry : goal.enter-requires-clause-entry
enter-requires-clause-entry g c = rw c.deref-task.ensures at c.in-Some.ensures.enters

pub enroll-requires-clause-table : goal.enroll-requires-clause-table
enroll-requires-clause-table g c = c.requires.table

pub enroll-requires-clause-asked : goal.enroll-requires-clause-asked
enroll-requires-clause-asked g c = c.requires.asked

pub enroll-requires-clause-entered : goal.enroll-requires-clause-entered
enroll-requires-clause-entered g c = rw c.deref-task.ensures at c.in-None.ensures.none
