use Rattle.std.proofs.Common.{ap, ◌∙◌}
use Rattle.std.specs.Prelude.{pos}
use Rattle.task_machine.specs.Stages.{slots_of}
use Rattle.task_machine.proofs.Filling.{refilled, zeros}
use Rattle.task_machine.proofs.slots.empty_slots.Goals as goal

pub returns-clause-empty : goal.returns-clause-empty
returns-clause-empty c =
    ap slots_of (c.in_ok-resize.ensures.items ∙ refilled c.args.count _ _ (pos 0) c.emptied-slots.ensures.items c.emptied-slots.ensures.len) ∙ zeros c.args.count
