use Rattle.std.proofs.Common.{◌+◌, ◌<◌, refl, sym, ◌∙◌, subst}
use Rattle.jade_meaning.specs.Plan.{RunPlan}
use Rattle.object_table.specs.Views.{count_of}
use Rattle.task_suspend.proofs.Tying.{inside, enter_next, entered, busy}
use Rattle.task_suspend.proofs.Trying.{numbered, tried_done, tried_busy}
use Rattle.jade_meaning.specs.Talk.{Enter}
use Rattle.task_machine.specs.declared.machine.Ask.TheVariants as ask
use Rattle.task_suspend.specs.Tries.{enters}
use Rattle.task_suspend.proofs.tries.enter.Goals as goal

pub enter-requires-clause-mark : goal.enter-requires-clause-mark
enter-requires-clause-mark g c = (rw (← c.deref_mut-task.ensures.value) at c.args.capsule.tied).table ∙ sym c.requires.table.0

pub enter-requires-clause-declared : goal.enter-requires-clause-declared
enter-requires-clause-declared g c =
    let x = c.deref_mut-task.result.now in
    let tied = rw (← c.deref_mut-task.ensures.value) at c.args.capsule.tied in
    let was_inside = rw (← c.deref_mut-task.ensures.value) at c.requires.inside in
    let P : RunPlan → Type 0 = λ k. c.args.object.0 < count_of k in
    subst P (sym c.requires.table.1)
    (inside g.N.RunName.mark g.N.RunName.plan x.pass x.machine x.from x.events tied c.args.object.0 was_inside)

pub enter-requires-clause-next : goal.enter-requires-clause-next
enter-requires-clause-next g c =
    let x = c.deref_mut-task.result.now in
    let tied = rw (← c.deref_mut-task.ensures.value) at c.args.capsule.tied in
    let was_asked = rw (← c.deref_mut-task.ensures.value) at c.requires.asked in
    let was_entry = rw (← c.deref_mut-task.ensures.value) at c.requires.entry in
    enter_next g.N.RunName.mark g.N.RunName.plan x.pass x.machine x.from x.events tied was_asked c.args.object.0 c.args.rights was_entry

pub invariant_of-capsule : goal.invariant_of-capsule
invariant_of-capsule g c =
    let x = c.deref_mut-task.result.now in
    let tied = rw (← c.deref_mut-task.ensures.value) at c.args.capsule.tied in
    let was_asked = rw (← c.deref_mut-task.ensures.value) at c.requires.asked in
    let was_entry = rw (← c.deref_mut-task.ensures.value) at c.requires.entry in
    let o = c.args.object.0 in
    let q = c.enter.new.pass in
    let did = tried_done o x.pass.shows q.shows c.in_ok-enter.field-0 c.in-Done.is c.in_ok-enter.ensures.answer in
    record {
      tied = numbered g.N.RunName.mark g.N.RunName.plan q x.machine (o + 1) (x.events + 1) c.in_ok-next.next c.in_ok-done.done
          (entered g.N.RunName.mark g.N.RunName.plan x.pass x.machine x.from x.events tied was_asked o c.args.rights was_entry q
          c.in_ok-enter.ensures.mark did) c.in_ok-next.ensures c.in_ok-done.ensures;
    }

pub invariant_of-capsule-in-Busy : goal.invariant_of-capsule-in-Busy
invariant_of-capsule-in-Busy g c =
    let x = c.deref_mut-task.result.now in
    let tied = rw (← c.deref_mut-task.ensures.value) at c.args.capsule.tied in
    let o = c.args.object.0 in
    let q = c.enter.new.pass in
    let n = c.in-Busy.field-0 in
    record {
      tied = busy g.N.RunName.mark g.N.RunName.plan x.pass x.machine x.from x.events tied q n o c.in_ok-enter.ensures.mark
          (tried_busy o x.pass.shows q.shows c.in_ok-enter.field-0 n c.in-Busy.is c.in_ok-enter.ensures.answer);
    }

pub returns-in-Done : goal.returns-in-Done
returns-in-Done g c =
    let x = c.deref_mut-task.result.now in
    let was_asked = rw (← c.deref_mut-task.ensures.value) at c.requires.asked in
    let was_entry = rw (← c.deref_mut-task.ensures.value) at c.requires.entry in
    let q = c.enter.new.pass in
    rw (← c.deref_mut-task.ensures.value) (enters (record {
      asked = was_asked;
      object = c.args.object.0;
      rights = c.args.rights;
      next = was_entry;
      did = tried_done c.args.object.0 x.pass.shows q.shows c.in_ok-enter.field-0 c.in-Done.is c.in_ok-enter.ensures.answer;
      further = record { machine = refl; from = c.in_ok-next.ensures; events = c.in_ok-done.ensures; gate = refl };
    }))

pub returns-in-Busy : goal.returns-in-Busy
returns-in-Busy g c =
    let x = c.deref_mut-task.result.now in
    let tied = rw (← c.deref_mut-task.ensures.value) at c.args.capsule.tied in
    let was_asked = rw (← c.deref_mut-task.ensures.value) at c.requires.asked in
    let was_entry = rw (← c.deref_mut-task.ensures.value) at c.requires.entry in
    let q = c.enter.new.pass in
    let found = tried_busy c.args.object.0 x.pass.shows q.shows c.in_ok-enter.field-0 c.in-Busy.field-0 c.in-Busy.is c.in_ok-enter.ensures.answer in
    rw (← c.deref_mut-task.ensures.value) (record {
      wanted = ask.Create;
      asked = was_asked;
      event = Enter c.args.object.0 c.args.rights;
      next =
          enter_next g.N.RunName.mark g.N.RunName.plan x.pass x.machine x.from x.events tied was_asked c.args.object.0 c.args.rights
          was_entry;
      read = found.after;
      unmoved = record { machine = refl; from = refl; events = refl; gate = refl };
    })
