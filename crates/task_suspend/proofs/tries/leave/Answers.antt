use Rattle.std.proofs.Common.{◌+◌, ◌<◌, Some, refl, sym, ◌∙◌, subst}
use Rattle.jade_meaning.specs.Plan.{RunPlan}
use Rattle.object_table.specs.Views.{count_of}
use Rattle.task_suspend.proofs.Tying.{inside, ending_of, ends_so, last_next, left_last, busy}
use Rattle.task_suspend.proofs.Trying.{numbered, tried_done, tried_busy}
use Rattle.jade_meaning.specs.Talk.{Leave}
use Rattle.task_suspend.specs.Asked.{ending}
use Rattle.task_suspend.specs.Tries.{departs}
use Rattle.task_suspend.proofs.tries.leave.Goals as goal

pub leave-requires-clause-mark : goal.leave-requires-clause-mark
leave-requires-clause-mark g c = (rw (← c.deref_mut-task.ensures.value) at c.args.capsule.tied).table ∙ sym c.requires.table.0

pub leave-requires-clause-declared : goal.leave-requires-clause-declared
leave-requires-clause-declared g c =
    let x = c.deref_mut-task.result.now in
    let tied = rw (← c.deref_mut-task.ensures.value) at c.args.capsule.tied in
    let was_inside = rw (← c.deref_mut-task.ensures.value) at c.requires.inside in
    let P : RunPlan → Type 0 = λ k. c.args.object.0 < count_of k in
    subst P (sym c.requires.table.1)
    (inside g.N.RunName.mark g.N.RunName.plan x.pass x.machine x.from x.events tied c.args.object.0 was_inside)

pub leave-requires-clause-next : goal.leave-requires-clause-next
leave-requires-clause-next g c =
    let x = c.deref_mut-task.result.now in
    let tied = rw (← c.deref_mut-task.ensures.value) at c.args.capsule.tied in
    let end = ending_of x.machine.ask (rw (← c.deref_mut-task.ensures.value) at c.requires.asked) in
    let was_entry = rw (← c.deref_mut-task.ensures.value) at c.requires.entry in
    last_next g.N.RunName.mark g.N.RunName.plan x.pass x.machine x.from x.events tied end.0 (Some (ending end.0)) end.1
    (ends_so end.0 x.machine.at) c.args.object.0 was_entry

pub place-requires : goal.place-requires
place-requires g c =
    let x = c.deref_mut-task.result.now in
    let tied = rw (← c.deref_mut-task.ensures.value) at c.args.capsule.tied in
    let was_inside = rw (← c.deref_mut-task.ensures.value) at c.requires.inside in
    inside g.N.RunName.mark g.N.RunName.plan x.pass x.machine x.from x.events tied c.args.object.0 was_inside

pub invariant_of-capsule : goal.invariant_of-capsule
invariant_of-capsule g c =
    let x = c.deref_mut-task.result.now in
    let tied = rw (← c.deref_mut-task.ensures.value) at c.args.capsule.tied in
    let end = ending_of x.machine.ask (rw (← c.deref_mut-task.ensures.value) at c.requires.asked) in
    let was_entry = rw (← c.deref_mut-task.ensures.value) at c.requires.entry in
    let o = c.args.object.0 in
    let q = c.leave.new.pass in
    let did = tried_done o x.pass.shows q.shows c.leave.result c.in-Done.is c.leave.ensures.answer in
    record {
      tied = numbered g.N.RunName.mark g.N.RunName.plan q x.machine (o + 1) (x.events + 1) c.in_ok-next.next c.in_ok-done.done
          (left_last g.N.RunName.mark g.N.RunName.plan x.pass x.machine x.from x.events tied end.0 (Some (ending end.0)) end.1
          (ends_so end.0 x.machine.at) o was_entry q c.leave.ensures.mark did) c.in_ok-next.ensures c.in_ok-done.ensures;
    }

pub invariant_of-capsule-in-Busy : goal.invariant_of-capsule-in-Busy
invariant_of-capsule-in-Busy g c =
    let x = c.deref_mut-task.result.now in
    let tied = rw (← c.deref_mut-task.ensures.value) at c.args.capsule.tied in
    let o = c.args.object.0 in
    let q = c.leave.new.pass in
    let n = c.in-Busy.field-0 in
    record {
      tied = busy g.N.RunName.mark g.N.RunName.plan x.pass x.machine x.from x.events tied q n o c.leave.ensures.mark
          (tried_busy o x.pass.shows q.shows c.leave.result n c.in-Busy.is c.leave.ensures.answer);
    }

pub returns-in-Done : goal.returns-in-Done
returns-in-Done g c =
    let x = c.deref_mut-task.result.now in
    let was_entry = rw (← c.deref_mut-task.ensures.value) at c.requires.entry in
    let q = c.leave.new.pass in
    rw (← c.deref_mut-task.ensures.value, c.place.ensures) (departs (record {
      asked = rw (← c.deref_mut-task.ensures.value) at c.requires.asked;
      next = was_entry;
      did = tried_done c.args.object.0 x.pass.shows q.shows c.leave.result c.in-Done.is c.leave.ensures.answer;
      further = record { machine = refl; from = c.in_ok-next.ensures; events = c.in_ok-done.ensures; gate = refl };
    }))

pub returns-in-Busy : goal.returns-in-Busy
returns-in-Busy g c =
    let x = c.deref_mut-task.result.now in
    let tied = rw (← c.deref_mut-task.ensures.value) at c.args.capsule.tied in
    let end = ending_of x.machine.ask (rw (← c.deref_mut-task.ensures.value) at c.requires.asked) in
    let was_entry = rw (← c.deref_mut-task.ensures.value) at c.requires.entry in
    let q = c.leave.new.pass in
    let found = tried_busy c.args.object.0 x.pass.shows q.shows c.leave.result c.in-Busy.field-0 c.in-Busy.is c.leave.ensures.answer in
    rw (← c.deref_mut-task.ensures.value) (record {
      wanted = ending end.0;
      asked = end.1;
      event = Leave c.args.object.0;
      next = last_next g.N.RunName.mark g.N.RunName.plan x.pass x.machine x.from x.events tied
          end.0 (Some (ending end.0)) end.1
          (ends_so end.0 x.machine.at) c.args.object.0 was_entry;
      read = found.after;
      unmoved = record { machine = refl; from = refl; events = refl; gate = refl };
    })
