use Rattle.std.proofs.Common.{◌+◌, ◌<◌, refl, sym, ap, ◌∙◌, subst}
use Rattle.jade_meaning.specs.Plan.{RunPlan}
use Rattle.object_table.specs.Views.{count_of}
use Rattle.task_suspend.proofs.Tying.{inside, shift_next, leave_next, follow_next, follows_at, followed, busy}
use Rattle.task_suspend.proofs.Trying.{numbered, tried_done, tried_busy}
use Rattle.object_table.specs.Calls.{found_busy}
use Rattle.task_machine.specs.declared.machine.Ask.TheVariants as ask
use Rattle.task_machine.specs.Asks.{follows}
use Rattle.task_suspend.specs.Tries.{follows_on}
use Rattle.task_suspend.proofs.tries.follow.Goals as goal

pub try_follow-requires-clause-mark : goal.try_follow-requires-clause-mark
try_follow-requires-clause-mark g c = (rw (← c.deref_mut-task.ensures.value) at c.args.capsule.tied).table ∙ sym c.requires.table.0

pub try_follow-requires-clause-declared : goal.try_follow-requires-clause-declared
try_follow-requires-clause-declared g c =
    let x = c.deref_mut-task.result.now in
    let tied = rw (← c.deref_mut-task.ensures.value) at c.args.capsule.tied in
    let was_inside = rw (← c.deref_mut-task.ensures.value) at c.requires.inside in
    let P : RunPlan → Type 0 = λ k. c.args.object.0 < count_of k in
    subst P (sym c.requires.table.1)
    (inside g.N.RunName.mark g.N.RunName.plan x.pass x.machine x.from x.events tied c.args.object.0 was_inside)

pub try_follow-requires-clause-shifts : goal.try_follow-requires-clause-shifts
try_follow-requires-clause-shifts g c =
    let x = c.deref_mut-task.result.now in
    let tied = rw (← c.deref_mut-task.ensures.value) at c.args.capsule.tied in
    let was_asked = rw (← c.deref_mut-task.ensures.value) at c.requires.asked in
    let was_change = rw (← c.deref_mut-task.ensures.value) at c.requires.change in
    shift_next g.N.RunName.mark g.N.RunName.plan x.pass x.machine x.from x.events tied was_asked c.args.object.0 c.args.rights was_change

pub try_follow-requires-clause-leaves : goal.try_follow-requires-clause-leaves
try_follow-requires-clause-leaves g c =
    let x = c.deref_mut-task.result.now in
    let tied = rw (← c.deref_mut-task.ensures.value) at c.args.capsule.tied in
    let was_asked = rw (← c.deref_mut-task.ensures.value) at c.requires.asked in
    let was_change = rw (← c.deref_mut-task.ensures.value) at c.requires.change in
    leave_next g.N.RunName.mark g.N.RunName.plan x.pass x.machine x.from x.events tied was_asked c.args.object.0 c.args.rights was_change

pub place-requires : goal.place-requires
place-requires g c =
    let x = c.deref_mut-task.result.now in
    let tied = rw (← c.deref_mut-task.ensures.value) at c.args.capsule.tied in
    let was_inside = rw (← c.deref_mut-task.ensures.value) at c.requires.inside in
    inside g.N.RunName.mark g.N.RunName.plan x.pass x.machine x.from x.events tied c.args.object.0 was_inside

pub invariant_of-capsule : goal.invariant_of-capsule
invariant_of-capsule g c =
    let x = c.deref_mut-task.result.now in
    let tied = rw (← c.deref_mut-task.ensures.value) at c.args.capsule.tied in
    let was_asked = rw (← c.deref_mut-task.ensures.value) at c.requires.asked in
    let was_change = rw (← c.deref_mut-task.ensures.value) at c.requires.change in
    let o = c.args.object.0 in
    let q = c.try_follow.new.pass in
    let did = tried_done o x.pass.shows q.shows c.try_follow.result c.in-Done.is c.try_follow.ensures.answer in
    record {
      tied = numbered g.N.RunName.mark g.N.RunName.plan q x.machine (o + 1) (x.events + 1) c.in_ok-next.next c.in_ok-done.done
          (followed g.N.RunName.mark g.N.RunName.plan x.pass x.machine x.from x.events tied was_asked o c.args.rights was_change q
          c.try_follow.ensures.mark did) c.in_ok-next.ensures c.in_ok-done.ensures;
    }

pub invariant_of-capsule-in-Busy : goal.invariant_of-capsule-in-Busy
invariant_of-capsule-in-Busy g c =
    let x = c.deref_mut-task.result.now in
    let tied = rw (← c.deref_mut-task.ensures.value) at c.args.capsule.tied in
    let o = c.args.object.0 in
    let q = c.try_follow.new.pass in
    let n = c.in-Busy.field-0 in
    record {
      tied = busy g.N.RunName.mark g.N.RunName.plan x.pass x.machine x.from x.events tied q n o c.try_follow.ensures.mark
          (tried_busy o x.pass.shows q.shows c.try_follow.result n c.in-Busy.is c.try_follow.ensures.answer);
    }

pub returns-in-Done : goal.returns-in-Done
returns-in-Done g c =
    let x = c.deref_mut-task.result.now in
    let was_asked = rw (← c.deref_mut-task.ensures.value) at c.requires.asked in
    let was_change = rw (← c.deref_mut-task.ensures.value) at c.requires.change in
    let q = c.try_follow.new.pass in
    rw (← c.deref_mut-task.ensures.value, c.place.ensures) (follows_on (record {
      asked = was_asked;
      rights = c.args.rights;
      next = was_change;
      did = tried_done c.args.object.0 x.pass.shows q.shows c.try_follow.result c.in-Done.is c.try_follow.ensures.answer;
      further = record { machine = refl; from = c.in_ok-next.ensures; events = c.in_ok-done.ensures; gate = refl };
    }))

pub returns-in-Busy : goal.returns-in-Busy
returns-in-Busy g c =
    let x = c.deref_mut-task.result.now in
    let tied = rw (← c.deref_mut-task.ensures.value) at c.args.capsule.tied in
    let was_asked = rw (← c.deref_mut-task.ensures.value) at c.requires.asked in
    let was_change = rw (← c.deref_mut-task.ensures.value) at c.requires.change in
    let q = c.try_follow.new.pass in
    let o = c.args.object.0 in
    let found = tried_busy o x.pass.shows q.shows c.try_follow.result c.in-Busy.field-0 c.in-Busy.is c.try_follow.ensures.answer in
    rw (← c.deref_mut-task.ensures.value) (record {
      wanted = ask.Change;
      asked = was_asked;
      event = follows o c.args.rights;
      next = follow_next g.N.RunName.mark g.N.RunName.plan x.pass x.machine x.from x.events tied was_asked o c.args.rights was_change;
      read = found.after ∙ ap (λ n. found_busy n x.pass.shows) (follows_at (count_of x.pass.shows.key) o c.args.rights);
      unmoved = record { machine = refl; from = refl; events = refl; gate = refl };
    })
