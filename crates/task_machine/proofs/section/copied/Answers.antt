use Rattle.std.proofs.Common.{sym}
use Rattle.access_spec.proofs.Copied.{placed, missing, copied-at}
use Rattle.task_machine.proofs.section.copied.Goals as goal

pub draft_at-requires : goal.draft_at-requires
draft_at-requires c = (placed c.args.spec.now c.args.object c.in-Some.place c.in-Some.ensures.drafted c.in-Some.ensures.place).within

pub returns-in-None : goal.returns-in-None
returns-in-None c = sym ((missing c.args.spec.now c.args.object c.in-None.ensures.drafted c.in-None.ensures.place).read)

pub returns-in-Some : goal.returns-in-Some
returns-in-Some c =
    sym (copied-at c.args.spec.now c.args.object c.in-Some.place c.draft_at.result c.in-Some.ensures.drafted c.in-Some.ensures.place c.draft_at.ensures)
