use Rattle.std.proofs.Common.{◌∙◌, true}
use Rattle.task_machine.proofs.Filling.{refilled}
use Rattle.task_machine.proofs.machine.all_due.Goals as goal

pub returns : goal.returns
returns c = c.in_ok-resize.ensures.items ∙ refilled c.args.count _ _ true c.emptied-due.ensures.items c.emptied-due.ensures.len
