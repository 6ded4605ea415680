use Rattle.std.proofs.Common.{ℕ, ◌<◌, ◌∙◌, refl, sym, subst}
use Rattle.jade_meaning.specs.Plan.{RunPlan}
use Rattle.jade_base.specs.Held.{Held}
use Rattle.object_table.specs.Views.{count_of}
use Rattle.task_machine.specs.declared.machine.Ask.TheVariants as ask
use Rattle.task_machine.specs.Asks.{Asking}
use Rattle.task_machine.specs.steps.Surrendering.{IsSurrendered}
use Rattle.task_suspend.specs.Ties.{Tied}
use Rattle.task_suspend.proofs.Tying.{give_inside, give_next, give_held, gave, busy}
use Rattle.jade_meaning.specs.Talk.{Give}
use Rattle.task_suspend.specs.Tries.{gives_back}
use Rattle.task_suspend.proofs.tries.try_give_back.Goals as goal

pub surrender-content-requires : goal.surrender-content-requires
surrender-content-requires g c = rw (← c.deref_mut-task.ensures.value) at c.requires.asked

pub give-requires-clause-mark : goal.give-requires-clause-mark
give-requires-clause-mark g c = (rw (← c.deref_mut-task.ensures.value) at c.args.capsule.tied).table ∙ sym c.requires.table.0

pub give-requires-clause-declared : goal.give-requires-clause-declared
give-requires-clause-declared g c =
    let x = c.deref_mut-task.result.now in
    let tied = rw (← c.deref_mut-task.ensures.value) at c.args.capsule.tied in
    let was_asked = rw (← c.deref_mut-task.ensures.value) at c.requires.asked in
    let P : RunPlan → Type 0 = λ k. c.args.object.0 < count_of k in
    subst P (sym c.requires.table.1)
    (give_inside g.N.RunName.mark g.N.RunName.plan x.pass x.machine x.from x.events tied c.args.object was_asked
    (c.stands.ensures (ask.GiveBack c.args.object) was_asked))

pub give-requires-clause-next : goal.give-requires-clause-next
give-requires-clause-next g c =
    let x = c.deref_mut-task.result.now in
    let tied = rw (← c.deref_mut-task.ensures.value) at c.args.capsule.tied in
    let was_asked = rw (← c.deref_mut-task.ensures.value) at c.requires.asked in
    give_next g.N.RunName.mark g.N.RunName.plan x.pass x.machine x.from x.events tied c.args.object was_asked
    (c.stands.ensures (ask.GiveBack c.args.object) was_asked)

pub give-requires-clause-held : goal.give-requires-clause-held
give-requires-clause-held g c =
    let x = c.deref_mut-task.result.now in
    let tied = rw (← c.deref_mut-task.ensures.value) at c.args.capsule.tied in
    let was_asked = rw (← c.deref_mut-task.ensures.value) at c.requires.asked in
    give_held g.N.RunName.mark g.N.RunName.plan x.pass x.machine x.from x.events tied c.args.object was_asked
    (c.stands.ensures (ask.GiveBack c.args.object) was_asked)
    c.surrender-content.result c.surrender-content.ensures.content

pub place-requires : goal.place-requires
place-requires g c =
    let x = c.deref_mut-task.result.now in
    let tied = rw (← c.deref_mut-task.ensures.value) at c.args.capsule.tied in
    let was_asked = rw (← c.deref_mut-task.ensures.value) at c.requires.asked in
    give_inside g.N.RunName.mark g.N.RunName.plan x.pass x.machine x.from x.events tied c.args.object was_asked
    (c.stands.ensures (ask.GiveBack c.args.object) was_asked)

pub invariant_of-capsule : goal.invariant_of-capsule
invariant_of-capsule g c =
    let x = c.deref_mut-task.result.now in
    let tied = rw (← c.deref_mut-task.ensures.value) at c.args.capsule.tied in
    let was_asked = rw (← c.deref_mut-task.ensures.value) at c.requires.asked in
    let q = c.give.new.pass in
    let b = c.surrender-content.new.self in
    let Q : ℕ → Type 0 = λ n. Tied g.N.RunName.mark g.N.RunName.plan q b x.from n in
    record {
      tied = subst Q (sym c.in_ok-done.ensures)
          (gave g.N.RunName.mark g.N.RunName.plan x.pass x.machine x.from x.events tied c.args.object was_asked
          (c.stands.ensures (ask.GiveBack c.args.object) was_asked) q b c.in-Ok.ensures.mark c.in-Ok.ensures.done
          c.surrender-content.ensures.surrendered c.surrender-content.ensures.held);
    }

pub restore-requires : goal.restore-requires
restore-requires g c =
    let x = c.deref_mut-task.result.now in
    let P : Held → Type 0 = λ h. IsSurrendered c.args.object h x.machine c.surrender-content.new.self in
    (x.machine, subst P (sym c.in-Err.ensures.busy.0) c.surrender-content.ensures.given)

pub invariant_of-capsule-in-Err : goal.invariant_of-capsule-in-Err
invariant_of-capsule-in-Err g c =
    let x = c.deref_mut-task.result.now in
    let tied = rw (← c.deref_mut-task.ensures.value) at c.args.capsule.tied in
    let q = c.give.new.pass in
    let P : Held → Type 0 = λ h. IsSurrendered c.args.object h x.machine c.surrender-content.new.self in
    let given = subst P (sym c.in-Err.ensures.busy.0) c.surrender-content.ensures.given in
    let before = c.restore.ensures x.machine given in
    let Q : Asking → Type 0 = λ a. Tied g.N.RunName.mark g.N.RunName.plan q a x.from x.events in
    record {
      tied = subst Q (sym before)
          (busy g.N.RunName.mark g.N.RunName.plan x.pass x.machine x.from x.events tied q c.in-Err.field-0-1 c.args.object.0 c.in-Err.ensures.mark
          c.in-Err.ensures.busy.1);
    }

pub returns-in-Ok : goal.returns-in-Ok
returns-in-Ok g c =
    let x = c.deref_mut-task.result.now in
    let was_asked = rw (← c.deref_mut-task.ensures.value) at c.requires.asked in
    rw (← c.deref_mut-task.ensures.value, c.place.ensures) (gives_back (record {
      asked = was_asked;
      did = c.in-Ok.ensures.done;
      answered = record {
        machine = c.surrender-content.ensures.surrendered;
        from = refl;
        events = c.in_ok-done.ensures;
        gate = refl;
      };
    }))

pub returns-in-Err : goal.returns-in-Err
returns-in-Err g c =
    let x = c.deref_mut-task.result.now in
    let tied = rw (← c.deref_mut-task.ensures.value) at c.args.capsule.tied in
    let was_asked = rw (← c.deref_mut-task.ensures.value) at c.requires.asked in
    let P : Held → Type 0 = λ h. IsSurrendered c.args.object h x.machine c.surrender-content.new.self in
    let given = subst P (sym c.in-Err.ensures.busy.0) c.surrender-content.ensures.given in
    let before = c.restore.ensures x.machine given in
    rw (← c.deref_mut-task.ensures.value) (record {
      wanted = ask.GiveBack c.args.object;
      asked = was_asked;
      event = Give c.args.object.0;
      next = give_next g.N.RunName.mark g.N.RunName.plan x.pass x.machine x.from x.events tied c.args.object was_asked
          (c.stands.ensures (ask.GiveBack c.args.object) was_asked);
      read = c.in-Err.ensures.busy.1.after;
      unmoved = record { machine = before; from = refl; events = refl; gate = refl };
    })
