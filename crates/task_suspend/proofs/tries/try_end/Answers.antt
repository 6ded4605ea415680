use Rattle.task_suspend.proofs.tries.try_end.Goals as goal

pub leave-requires-clause-table : goal.leave-requires-clause-table
leave-requires-clause-table g c = c.requires.table

pub leave-requires-clause-asked : goal.leave-requires-clause-asked
leave-requires-clause-asked g c = c.requires.asked

pub leave-requires-clause-inside : goal.leave-requires-clause-inside
leave-requires-clause-inside g c = rw c.deref-task.ensures at c.in-Some.ensures.within

pub leave-requires-clause-entry : goal.leave-requires-clause-entry
leave-requires-clause-entry g c = rw c.deref-task.ensures at c.in-Some.ensures.leaves
