use Rattle.std.proofs.Common.{ℕ, ◌<◌, Ok, ◌∙◌, ap, refl, sym, subst}
use Rattle.jade_meaning.specs.Plan.{RunPlan}
use Rattle.object_table.specs.Views.{count_of}
use Rattle.object_table.specs.Calls.{TakenAs}
use Rattle.object_table.specs.declared.answers.Taken.{Taken}
use Rattle.task_machine.specs.declared.machine.Ask.TheVariants as ask
use Rattle.task_suspend.specs.Ties.{Tied}
use Rattle.task_suspend.proofs.Asking.{asks_for}
use Rattle.task_suspend.proofs.Tying.{take_inside, take_next, supply_asks, took, kept_by, busy}
use Rattle.jade_meaning.specs.Talk.{Take}
use Rattle.object_table.specs.Calls.{IsBusy}
use Rattle.task_suspend.specs.Tries.{takes}
use Rattle.task_suspend.proofs.tries.try_take.Goals as goal

pub take-requires-clause-declared : goal.take-requires-clause-declared
take-requires-clause-declared g c =
    let x = c.deref_mut-task.result.now in
    let tied = rw (← c.deref_mut-task.ensures.value) at c.args.capsule.tied in
    let was_asked = rw (← c.deref_mut-task.ensures.value) at c.requires.asked in
    let P : RunPlan → Type 0 = λ k. c.args.object.0 < count_of k in
    subst P (sym c.requires.table.1)
    (take_inside g.N.RunName.mark g.N.RunName.plan x.pass x.machine x.from x.events tied c.args.object c.args.mode was_asked
    (c.stands.ensures (ask.Take c.args.object c.args.mode) was_asked))

pub take-requires-clause-next : goal.take-requires-clause-next
take-requires-clause-next g c =
    let x = c.deref_mut-task.result.now in
    let tied = rw (← c.deref_mut-task.ensures.value) at c.args.capsule.tied in
    let was_asked = rw (← c.deref_mut-task.ensures.value) at c.requires.asked in
    take_next g.N.RunName.mark g.N.RunName.plan x.pass x.machine x.from x.events tied c.args.object c.args.mode was_asked
    (c.stands.ensures (ask.Take c.args.object c.args.mode) was_asked)

pub place-requires : goal.place-requires
place-requires g c =
    let x = c.deref_mut-task.result.now in
    let tied = rw (← c.deref_mut-task.ensures.value) at c.args.capsule.tied in
    let was_asked = rw (← c.deref_mut-task.ensures.value) at c.requires.asked in
    take_inside g.N.RunName.mark g.N.RunName.plan x.pass x.machine x.from x.events tied c.args.object c.args.mode was_asked
    (c.stands.ensures (ask.Take c.args.object c.args.mode) was_asked)

pub that_waits-requires : goal.that_waits-requires
that_waits-requires g c =
    let x = c.deref_mut-task.result.now in
    let was_asked = rw (← c.deref_mut-task.ensures.value) at c.requires.asked in
    asks_for c.place.result.object.0 c.args.object c.args.mode x.machine.ask was_asked (ap (λ o. o.0) (sym c.place.ensures))

pub take-requires-clause-mark : goal.take-requires-clause-mark
take-requires-clause-mark g c = (rw (← c.deref_mut-task.ensures.value) at c.args.capsule.tied).table ∙ sym c.requires.table.0

pub supply-requires : goal.supply-requires
supply-requires g c =
    let x = c.deref_mut-task.result.now in
    let tied = rw (← c.deref_mut-task.ensures.value) at c.args.capsule.tied in
    let was_asked = rw (← c.deref_mut-task.ensures.value) at c.requires.asked in
    let q = c.take.new.pass in
    let P : Taken → Type 0 = λ r. TakenAs c.args.object.0 c.args.mode x.pass.shows (Ok r) q.shows in
    supply_asks g.N.RunName.mark g.N.RunName.plan x.pass x.machine x.from x.events tied c.args.object
    c.args.mode was_asked (c.stands.ensures (ask.Take c.args.object c.args.mode) was_asked) c.in-Got.content q.shows
    (subst P c.in-Got.is c.in_ok-content.ensures.answer)

pub invariant_of-capsule : goal.invariant_of-capsule
invariant_of-capsule g c =
    let x = c.deref_mut-task.result.now in
    let tied = rw (← c.deref_mut-task.ensures.value) at c.args.capsule.tied in
    let was_asked = rw (← c.deref_mut-task.ensures.value) at c.requires.asked in
    let q = c.take.new.pass in
    let b = c.supply.new.self in
    let P : Taken → Type 0 = λ r. TakenAs c.args.object.0 c.args.mode x.pass.shows (Ok r) q.shows in
    let Q : ℕ → Type 0 = λ n. Tied g.N.RunName.mark g.N.RunName.plan q b x.from n in
    record {
      tied = subst Q (sym c.in_ok-done.ensures)
          (took g.N.RunName.mark g.N.RunName.plan x.pass x.machine x.from x.events tied c.args.object c.args.mode was_asked
          (c.stands.ensures (ask.Take c.args.object c.args.mode) was_asked) c.in-Got.content q b c.in_ok-content.ensures.mark
          (subst P c.in-Got.is c.in_ok-content.ensures.answer) c.supply.ensures.supplied c.supply.ensures.held);
    }

pub invariant_of-capsule-in-NotYet : goal.invariant_of-capsule-in-NotYet
invariant_of-capsule-in-NotYet g c =
    let x = c.deref_mut-task.result.now in
    let tied = rw (← c.deref_mut-task.ensures.value) at c.args.capsule.tied in
    let q = c.take.new.pass in
    let P : Taken → Type 0 = λ r. TakenAs c.args.object.0 c.args.mode x.pass.shows (Ok r) q.shows in
    record {
      tied = kept_by g.N.RunName.mark g.N.RunName.plan x.pass x.machine x.from x.events tied q c.in-NotYet.keeper c.args.object.0 c.args.mode
          c.in_ok-content.ensures.mark (subst P c.in-NotYet.is c.in_ok-content.ensures.answer);
    }

pub invariant_of-capsule-in-Busy : goal.invariant_of-capsule-in-Busy
invariant_of-capsule-in-Busy g c =
    let x = c.deref_mut-task.result.now in
    let tied = rw (← c.deref_mut-task.ensures.value) at c.args.capsule.tied in
    let q = c.take.new.pass in
    let P : Taken → Type 0 = λ r. TakenAs c.args.object.0 c.args.mode x.pass.shows (Ok r) q.shows in
    record {
      tied = busy g.N.RunName.mark g.N.RunName.plan x.pass x.machine x.from x.events tied q c.in-Busy.field-0 c.args.object.0
          c.in_ok-content.ensures.mark (subst P c.in-Busy.is c.in_ok-content.ensures.answer);
    }

pub returns-in-Got : goal.returns-in-Got
returns-in-Got g c =
    let x = c.deref_mut-task.result.now in
    let was_asked = rw (← c.deref_mut-task.ensures.value) at c.requires.asked in
    let q = c.take.new.pass in
    let P : Taken → Type 0 = λ r. TakenAs c.args.object.0 c.args.mode x.pass.shows (Ok r) q.shows in
    rw (← c.deref_mut-task.ensures.value) (takes (record {
      object = c.args.object;
      mode = c.args.mode;
      asked = was_asked;
      content = c.in-Got.content;
      took = subst P c.in-Got.is c.in_ok-content.ensures.answer;
      answered = record { machine = c.supply.ensures.supplied; from = refl; events = c.in_ok-done.ensures; gate = refl };
    }))

pub returns-in-NotYet : goal.returns-in-NotYet
returns-in-NotYet g c =
    let x = c.deref_mut-task.result.now in
    let was_asked = rw (← c.deref_mut-task.ensures.value) at c.requires.asked in
    let q = c.take.new.pass in
    let P : Taken → Type 0 = λ r. TakenAs c.args.object.0 c.args.mode x.pass.shows (Ok r) q.shows in
    rw (← c.deref_mut-task.ensures.value, c.that_waits.ensures.place, c.that_waits.ensures.capsule, c.place.ensures) (record {
      mode = c.args.mode;
      asked = was_asked;
      keeper = c.in-NotYet.keeper;
      kept = subst P c.in-NotYet.is c.in_ok-content.ensures.answer;
      unmoved = record { machine = refl; from = refl; events = refl; gate = refl };
    })

pub returns-in-Busy : goal.returns-in-Busy
returns-in-Busy g c =
    let x = c.deref_mut-task.result.now in
    let tied = rw (← c.deref_mut-task.ensures.value) at c.args.capsule.tied in
    let was_asked = rw (← c.deref_mut-task.ensures.value) at c.requires.asked in
    let q = c.take.new.pass in
    let P : Taken → Type 0 = λ r. TakenAs c.args.object.0 c.args.mode x.pass.shows (Ok r) q.shows in
    let busy_so : IsBusy c.in-Busy.field-0 c.args.object.0 x.pass.shows q.shows = subst P c.in-Busy.is c.in_ok-content.ensures.answer in
    rw (← c.deref_mut-task.ensures.value) (record {
      wanted = ask.Take c.args.object c.args.mode;
      asked = was_asked;
      event = Take c.args.object.0 c.args.mode;
      next = take_next g.N.RunName.mark g.N.RunName.plan x.pass x.machine x.from x.events tied c.args.object c.args.mode was_asked
          (c.stands.ensures (ask.Take c.args.object c.args.mode) was_asked);
      read = busy_so.after;
      unmoved = record { machine = refl; from = refl; events = refl; gate = refl };
    })
