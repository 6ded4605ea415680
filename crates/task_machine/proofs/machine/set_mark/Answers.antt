use Rattle.std.proofs.Common.{◌+◌, sym, ◌∙◌, arith, ◌≡◌}
use Rattle.task_machine.proofs.Answering.{mark_none, mark_some, set_short}
use Rattle.task_machine.proofs.machine.set_mark.Goals as goal

pub returns-in-None : goal.returns-in-None
returns-in-None c = sym (mark_none c.args.object.0 c.args.mark 0 c.args.execution.now.rows c.args.due.now.items (sym c.in-None.ensures))

pub returns-then-place-len : goal.returns-then-place-len
returns-then-place-len c =
    let z : c.in-Some.place ≡ 0 + c.in-Some.place = omega arith in
    sym (mark_some c.args.object.0 c.args.mark 0 c.args.execution.now.rows c.args.due.now.items c.in-Some.place c.in-Some.place (sym c.in-Some.ensures) z)

pub returns-else-place-len : goal.returns-else-place-len
returns-else-place-len c =
    let z : c.in-Some.place ≡ 0 + c.in-Some.place = omega arith in
    sym (mark_some c.args.object.0 c.args.mark 0 c.args.execution.now.rows c.args.due.now.items c.in-Some.place c.in-Some.place (sym c.in-Some.ensures) z
    ∙ set_short c.args.due.now.items c.in-Some.place c.args.mark (omega arith))
