use Rattle.std.proofs.Common.{length}
use Rattle.worked_table.proofs.tasks.Tasks.drain.Given as goal

abbrev pub decreases-loop-task : goal.decreases-loop-task
decreases-loop-task g l = length l.list
