use Rattle.std.proofs.Common.{Some, sym, ap, ◌∙◌, subst}
use Rattle.jade_meaning.specs.Talk.{Resign}
use Rattle.object_table.specs.Calls.{Next}
use Rattle.task_machine.specs.Machines.{steps_at}
use Rattle.task_suspend.specs.declared.capsule.Running.{Running}
use Rattle.task_suspend.specs.Asked.{ending}
use Rattle.task_suspend.proofs.Tying.{resign_next, ends_so, none_left}
use Rattle.task_suspend.proofs.tries.retire.Goals as goal

pub retire-requires-clause-next : goal.retire-requires-clause-next
retire-requires-clause-next g c =
    let d = c.args.departed in
    let x = d.capsule.task.value in
    let n = c.steps-steps.result in
    let blame = c.fault_of-blame.result in
    let count = c.steps-steps.ensures ∙ ap (λ (r : Running). steps_at r.machine.at) c.deref-2.ensures in
    let was_asked = ap (λ (r : Running). r.machine.ask) (sym c.deref.ensures) ∙ sym c.asked.ensures ∙ c.fault_of-blame.ensures in
    subst (λ (r : Running). Next (Resign blame n) r.pass.shows) (sym c.into_inner-pass.ensures)
    (resign_next g.N.RunName.mark g.N.RunName.plan x.pass x.machine x.from x.events d.capsule.tied blame (Some (ending blame)) was_asked
    (ends_so blame x.machine.at) n count (none_left _ d.over))
