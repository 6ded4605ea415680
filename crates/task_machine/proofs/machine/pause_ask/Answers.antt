use Rattle.std.proofs.Common.{ℕ, sym, subst}
use Rattle.jade_base.specs.declared.place.ObjectId.{ObjectId}
use Rattle.task_machine.specs.Stages.{Tells}
use Rattle.task_machine.specs.Executions.{held_by}
use Rattle.task_machine.specs.Machines.{child_of, IsOrdered, NoDue}
use Rattle.task_machine.specs.steps.Standing.{Asked, HasRows, machine, phase_of}
use Rattle.task_machine.proofs.Standing.{want_asked}
use Rattle.task_machine.proofs.machine.pause_ask.Goals as goal

pub returns-in-Take : goal.returns-in-Take
returns-in-Take c =
    let e = c.args.execution.now in
    let o : ObjectId = record { 0 = c.in-Take.object } in
    subst (λ p. (part : ℕ) → IsOrdered (machine e c.args.due.now (phase_of p) part) → NoDue (machine e c.args.due.now (phase_of p) part)
    → HasRows e.stage.spec.entries e.rows → Asked c.take.result (phase_of p) (machine e c.args.due.now (phase_of p) part)) (sym c.in-Take.is)
    (want_asked e c.args.due.now o c.take.result (subst (λ p. Tells p (child_of e) e.stage (held_by e)) c.in-Take.is c.requires.tells) c.take.ensures)
