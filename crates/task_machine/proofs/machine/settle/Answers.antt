use Rattle.std.proofs.Common.{true}
use Rattle.task_machine.proofs.Quiet.{cleared}
use Rattle.task_machine.proofs.machine.settle.Goals as goal

pub returns-in-Starting-clause-unset : goal.returns-in-Starting-clause-unset
returns-in-Starting-clause-unset c = cleared c.args.due.now.items _ c.clear.ensures true

pub returns-in-Taking-clause-unset : goal.returns-in-Taking-clause-unset
returns-in-Taking-clause-unset c = cleared c.args.due.now.items _ c.clear-in-Taking.ensures true
