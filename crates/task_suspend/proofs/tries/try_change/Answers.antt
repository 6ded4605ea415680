use Rattle.std.proofs.Common.{refl}
use Rattle.task_suspend.specs.Tries.{amends}
use Rattle.task_suspend.proofs.Tying.{changed_so}
use Rattle.task_suspend.proofs.tries.try_change.Goals as goal

pub follow-requires-clause-table : goal.follow-requires-clause-table
follow-requires-clause-table g c = c.requires.table

pub follow-requires-clause-asked : goal.follow-requires-clause-asked
follow-requires-clause-asked g c = c.requires.asked

pub follow-requires-clause-inside : goal.follow-requires-clause-inside
follow-requires-clause-inside g c = rw c.deref-task.ensures at c.in-Some.ensures.within

pub follow-requires-clause-change : goal.follow-requires-clause-change
follow-requires-clause-change g c = rw c.deref-task.ensures at c.in-Some.ensures.shifts

pub changed-requires : goal.changed-requires
changed-requires g c = rw (← c.deref_mut-task.ensures.value) at c.requires.asked

pub invariant_of-capsule : goal.invariant_of-capsule
invariant_of-capsule g c =
    let x = c.deref_mut-task.result.now in
    let tied = rw (← c.deref_mut-task.ensures.value) at c.args.capsule.tied in
    let was_asked = rw (← c.deref_mut-task.ensures.value) at c.requires.asked in
    let was_followed = rw (← c.deref_mut-task.ensures.value) at (rw c.deref-task.ensures at c.in-None.ensures.none) in
    record {
      tied = changed_so g.N.RunName.mark g.N.RunName.plan x.pass x.machine x.from x.events tied was_asked c.changed.new.self was_followed c.changed.ensures;
    }

pub returns-in-None : goal.returns-in-None
returns-in-None g c =
    let was_asked = rw (← c.deref_mut-task.ensures.value) at c.requires.asked in
    let was_followed = rw (← c.deref_mut-task.ensures.value) at (rw c.deref-task.ensures at c.in-None.ensures.none) in
    rw (← c.deref_mut-task.ensures.value) (amends (record {
      asked = was_asked;
      followed = was_followed;
      pass = refl;
      machine = c.changed.ensures;
      from = refl;
      events = refl;
      gate = refl;
    }))
