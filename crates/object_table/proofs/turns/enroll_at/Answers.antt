use Rattle.std.proofs.Common.{inl, refl, arith}
use Rattle.object_table.specs.steps.Kept.{shown}
use Rattle.object_table.proofs.Calls.{tickets_is}
use Rattle.object_table.proofs.turns.enroll_at.Goals as goal

pub returns-clause-answer : goal.returns-clause-answer
returns-clause-answer c =
    let same = tickets_is c.args.task.now c.requires.rests in
    let many = c.if-task-lt3.false in (
      c.in_ok-bear_at_once.ensures.done,
      record { stocked = shown c.args.task.now; got = inl (omega (arith, same, many), refl); one = c.in_ok-bear_at_once.ensures.spent },
    )
