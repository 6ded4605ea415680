use Rattle.std.proofs.Common.{length, subst, ◌<◌, ◌^◌, ℕ, arith}
use Rattle.task_machine.specs.Executions.{held_by}
use Rattle.task_machine.specs.Machines.{child_of}
use Rattle.task_machine.proofs.Few.{touches_below}
use Rattle.task_machine.proofs.machine.can_count.Goals as goal

pub returns-then-length : goal.returns-then-length
returns-then-length c =
    let e = c.args.execution.now in
    let left : e.stage.left < 2 ^ 32 = subst (λ (n : ℕ). n < 2 ^ 32) c.steps_left-left.ensures c.steps_left-left.type_inv in
    let is = c.length.ensures in
    let most = c.if-length.true in
    let short : length e.stage.code < 2 ^ 32 = omega (arith, is, most) in
    touches_below (child_of e) e.stage (held_by e) left short
