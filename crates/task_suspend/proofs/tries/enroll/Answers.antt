use Rattle.std.proofs.Common.{ℕ, ◌+◌, ◌%◌, ◌^◌, refl, sym, ap, ◌∙◌, subst}
use Rattle.object_table.specs.Views.{count_of}
use Rattle.task_machine.specs.Machines.{child_task}
use Rattle.task_machine.specs.Asks.{number_of}
use Rattle.task_suspend.proofs.Tying.{enroll_next, parted, born_so, busy}
use Rattle.task_suspend.proofs.Trying.{numbered, enrolled_done, enrolled_busy, bore_live, bore_kid}
use Rattle.jade_meaning.specs.Talk.{Enroll}
use Rattle.object_table.specs.Calls.{Bore, found_busy}
use Rattle.task_machine.specs.declared.machine.Ask.TheVariants as ask
use Rattle.task_suspend.proofs.Tying.{roll_at}
use Rattle.task_suspend.proofs.tries.enroll.Goals as goal

pub enroll-requires-clause-mark : goal.enroll-requires-clause-mark
enroll-requires-clause-mark g c = (rw (← c.deref_mut-task.ensures.value) at c.args.capsule.tied).table ∙ sym c.requires.table.0

pub enroll-requires-clause-next : goal.enroll-requires-clause-next
enroll-requires-clause-next g c =
    let x = c.deref_mut-task.result.now in
    let tied = rw (← c.deref_mut-task.ensures.value) at c.args.capsule.tied in
    let was_asked = rw (← c.deref_mut-task.ensures.value) at c.requires.asked in
    let was_entered = rw (← c.deref_mut-task.ensures.value) at c.requires.entered in (
      child_task (number_of x.machine.at.phase) x.machine.at.execution,
      enroll_next g.N.RunName.mark g.N.RunName.plan x.pass x.machine x.from x.events tied was_asked was_entered c.steps-steps.result
          c.steps-steps.ensures,
    )

pub split-requires-clause-mark : goal.split-requires-clause-mark
split-requires-clause-mark g c =
    let tied = rw (← c.deref_mut-task.ensures.value) at c.args.capsule.tied in
    c.in_ok-enroll.ensures.mark ∙ tied.table ∙ sym c.requires.table.0

pub split-requires-clause-live : goal.split-requires-clause-live
split-requires-clause-live g c =
    let x = c.deref_mut-task.result.now in
    let tied = rw (← c.deref_mut-task.ensures.value) at c.args.capsule.tied in
    let v = x.pass.shows in
    let w = c.enroll.new.pass.shows in
    let o = count_of c.args.table.now.plan in
    bore_live c.steps-steps.result v w (enrolled_done o c.steps-steps.result v w c.in_ok-enroll.field-0 c.in-Done.is c.in_ok-enroll.ensures.answer) tied.live

pub split-requires-clause-kid : goal.split-requires-clause-kid
split-requires-clause-kid g c =
    let x = c.deref_mut-task.result.now in
    let v = x.pass.shows in
    let w = c.enroll.new.pass.shows in
    let o = count_of c.args.table.now.plan in
    bore_kid c.steps-steps.result v w (enrolled_done o c.steps-steps.result v w c.in_ok-enroll.field-0 c.in-Done.is c.in_ok-enroll.ensures.answer)

pub child-requires : goal.child-requires
child-requires g c = rw (← c.deref_mut-task.ensures.value) at c.requires.asked

pub invariant_of-child : goal.invariant_of-child
invariant_of-child g c =
    let x = c.deref_mut-task.result.now in
    let tied = rw (← c.deref_mut-task.ensures.value) at c.args.capsule.tied in
    let was_asked = rw (← c.deref_mut-task.ensures.value) at c.requires.asked in
    let was_entered = rw (← c.deref_mut-task.ensures.value) at c.requires.entered in
    let w = c.enroll.new.pass.shows in
    let q = c.in_ok-young-in-Done.young in
    let o = count_of c.args.table.now.plan in
    record {
      tied = rw c.in_ok-theirs-in-Done.ensures
          (born_so g.N.RunName.mark g.N.RunName.plan x.pass x.machine x.from x.events tied was_asked was_entered c.steps-steps.result w q
          c.in_ok-machine-in-Done.machine (c.in_ok-young-in-Done.ensures.child.0 ∙ c.in_ok-enroll.ensures.mark)
          (enrolled_done o c.steps-steps.result x.pass.shows w c.in_ok-enroll.field-0 c.in-Done.is c.in_ok-enroll.ensures.answer) c.in_ok-young-in-Done.ensures.child.1
          c.in_ok-machine-in-Done.ensures.begins c.in_ok-machine-in-Done.ensures.objects);
    }

pub invariant_of-capsule : goal.invariant_of-capsule
invariant_of-capsule g c =
    let x = c.deref_mut-task.result.now in
    let tied = rw (← c.deref_mut-task.ensures.value) at c.args.capsule.tied in
    let was_asked = rw (← c.deref_mut-task.ensures.value) at c.requires.asked in
    let was_entered = rw (← c.deref_mut-task.ensures.value) at c.requires.entered in
    let w = c.enroll.new.pass.shows in
    let q = c.split.new.pass in
    let b = c.child.new.self in
    let o = count_of c.args.table.now.plan in
    record {
      tied = numbered g.N.RunName.mark g.N.RunName.plan q b x.from (x.events + 1) x.from c.in_ok-done.done
          (parted g.N.RunName.mark g.N.RunName.plan x.pass x.machine x.from x.events tied was_asked was_entered c.steps-steps.result
          ((x.machine.children + 1) % 2 ^ 32) w q b (c.in_ok-young-in-Done.ensures.mark ∙ c.in_ok-enroll.ensures.mark)
          (enrolled_done o c.steps-steps.result x.pass.shows w c.in_ok-enroll.field-0 c.in-Done.is c.in_ok-enroll.ensures.answer) c.in_ok-young-in-Done.ensures.parent
          c.in_ok-machine-in-Done.ensures.created) refl c.in_ok-done.ensures;
    }

pub invariant_of-capsule-in-Busy : goal.invariant_of-capsule-in-Busy
invariant_of-capsule-in-Busy g c =
    let x = c.deref_mut-task.result.now in
    let tied = rw (← c.deref_mut-task.ensures.value) at c.args.capsule.tied in
    let q = c.enroll.new.pass in
    let o = count_of c.args.table.now.plan in
    let n = c.in-Busy.field-0 in
    record {
      tied = busy g.N.RunName.mark g.N.RunName.plan x.pass x.machine x.from x.events tied q n o c.in_ok-enroll.ensures.mark
          (enrolled_busy o c.steps-steps.result x.pass.shows q.shows c.in_ok-enroll.field-0 n c.in-Busy.is c.in_ok-enroll.ensures.answer);
    }

pub returns-in_ok-theirs-in-Done : goal.returns-in_ok-theirs-in-Done
returns-in_ok-theirs-in-Done g c =
    let x = c.deref_mut-task.result.now in
    let tied = rw (← c.deref_mut-task.ensures.value) at c.args.capsule.tied in
    let was_asked = rw (← c.deref_mut-task.ensures.value) at c.requires.asked in
    let was_entered = rw (← c.deref_mut-task.ensures.value) at c.requires.entered in
    let w = c.enroll.new.pass.shows in
    let o = count_of c.args.table.now.plan in
    let B : ℕ → Type 0 = λ n. Bore n x.pass.shows w in
    rw (← c.deref_mut-task.ensures.value, c.in_ok-theirs-in-Done.ensures) (record {
      asked = was_asked;
      entered = was_entered;
      enrolled = w;
      bore = subst B c.steps-steps.ensures
          (enrolled_done o c.steps-steps.result x.pass.shows w c.in_ok-enroll.field-0 c.in-Done.is c.in_ok-enroll.ensures.answer);
      parent = c.in_ok-young-in-Done.ensures.parent;
      answered = record { machine = c.in_ok-machine-in-Done.ensures.created; from = refl; events = c.in_ok-done.ensures; gate = refl };
      young = c.in_ok-young-in-Done.ensures.child.1;
      begins = c.in_ok-machine-in-Done.ensures.begins;
      from = refl;
      events = refl;
      gate = refl;
    })

pub returns-in-Busy : goal.returns-in-Busy
returns-in-Busy g c =
    let x = c.deref_mut-task.result.now in
    let tied = rw (← c.deref_mut-task.ensures.value) at c.args.capsule.tied in
    let was_asked = rw (← c.deref_mut-task.ensures.value) at c.requires.asked in
    let was_entered = rw (← c.deref_mut-task.ensures.value) at c.requires.entered in
    let w = c.enroll.new.pass.shows in
    let o = count_of c.args.table.now.plan in
    let child = child_task (number_of x.machine.at.phase) x.machine.at.execution in
    let found = enrolled_busy o c.steps-steps.result x.pass.shows w c.in_ok-enroll.field-0 c.in-Busy.field-0 c.in-Busy.is c.in_ok-enroll.ensures.answer in
    rw (← c.deref_mut-task.ensures.value) (record {
      wanted = ask.Create;
      asked = was_asked;
      event = Enroll child c.steps-steps.result;
      next =
          enroll_next g.N.RunName.mark g.N.RunName.plan x.pass x.machine x.from x.events tied was_asked was_entered c.steps-steps.result
          c.steps-steps.ensures;
      read = found.after ∙ ap (λ n. found_busy n x.pass.shows)
          (roll_at g.N.RunName.mark g.N.RunName.plan x.pass x.machine x.from x.events tied c.args.table.now.plan c.requires.table.1);
      unmoved = record { machine = refl; from = refl; events = refl; gate = refl };
    })
