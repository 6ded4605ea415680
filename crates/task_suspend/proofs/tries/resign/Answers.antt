use Rattle.std.proofs.Common.{ℕ, Some, sym, ◌∙◌, subst}
use Rattle.task_suspend.proofs.Tying.{resign_next, ends_so, gone, none_left}
use Rattle.object_table.specs.Calls.{Ended}
use Rattle.task_suspend.specs.Asked.{ending}
use Rattle.task_suspend.proofs.tries.resign.Goals as goal

pub resign-requires-clause-mark : goal.resign-requires-clause-mark
resign-requires-clause-mark g c = (rw (← c.deref_mut-task.ensures.value) at c.args.departed.capsule.tied).table ∙ sym c.requires.0

pub resign-requires-clause-next : goal.resign-requires-clause-next
resign-requires-clause-next g c =
    let x = c.deref_mut-task.result.now in
    let tied = rw (← c.deref_mut-task.ensures.value) at c.args.departed.capsule.tied in
    let was_asked = sym c.asked.ensures ∙ c.fault_of-blame.ensures in
    let was_over = none_left _ (rw (← c.deref_mut-task.ensures.value) at c.args.departed.over) in
    let blame = c.fault_of-blame.result in
    resign_next g.N.RunName.mark g.N.RunName.plan x.pass x.machine x.from x.events tied blame (Some (ending blame)) was_asked
    (ends_so blame x.machine.at) c.steps-steps.result c.steps-steps.ensures was_over

pub invariant_of-result : goal.invariant_of-result
invariant_of-result g c =
    let x = c.deref_mut-task.result.now in
    let tied = rw (← c.deref_mut-task.ensures.value) at c.args.departed.capsule.tied in
    record {
      of = gone g.N.RunName.mark g.N.RunName.plan x.pass x.machine x.from x.events tied c.steps-steps.result c.fault_of-blame.result c.resign.new.pass
          c.resign.ensures.mark c.resign.ensures.done;
    }

pub returns : goal.returns
returns g c =
    let x = c.deref_mut-task.result.now in
    let blame = c.fault_of-blame.result in
    let S : ℕ → Type 0 = λ n. Ended blame n x.pass.shows c.resign.new.pass.shows in
    rw (← c.deref_mut-task.ensures.value) (record {
      fault = blame;
      asked = sym c.asked.ensures ∙ c.fault_of-blame.ensures;
      ended = subst S c.steps-steps.ensures c.resign.ensures.done;
    })
