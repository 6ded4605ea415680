use Rattle.std.proofs.Common.{◌≡◌, ℕ, ◌+◌, refl, sym, ap, ◌∙◌, subst}
use Rattle.object_table.specs.Calls.{Comes}
use Rattle.task_suspend.specs.Ties.{Tied}
use Rattle.task_suspend.proofs.Tying.{comes, advanced}
use Rattle.task_suspend.proofs.tries.go_on.Goals as goal

pub pass_on-requires : goal.pass_on-requires
pass_on-requires g c =
    let x = c.deref_mut-task.result.now in
    let tied = rw (← c.deref_mut-task.ensures.value) at c.args.capsule.tied in
    let was_asked = rw (← c.deref_mut-task.ensures.value) at c.requires in
    let b = c.advance.new.self in
    let sum : c.in_ok-done.done ≡ x.events + b.touched = c.in_ok-done.ensures ∙ ap (λ n. x.events + n) c.touched.ensures in
    let P : ℕ → Type 0 = λ n. Comes b.touched n x.pass.shows in (
      b.touched,
      subst P (sym sum) (comes g.N.RunName.mark g.N.RunName.plan x.pass x.machine x.from x.events tied b was_asked
          c.in_ok-ask.ensures.goes),
    )

pub invariant_of-capsule : goal.invariant_of-capsule
invariant_of-capsule g c =
    let x = c.deref_mut-task.result.now in
    let tied = rw (← c.deref_mut-task.ensures.value) at c.args.capsule.tied in
    let was_asked = rw (← c.deref_mut-task.ensures.value) at c.requires in
    let b = c.advance.new.self in
    let q = c.pass_on.new.self in
    let sum : c.in_ok-done.done ≡ x.events + b.touched = c.in_ok-done.ensures ∙ ap (λ n. x.events + n) c.touched.ensures in
    let P : ℕ → Type 0 = λ n. Comes b.touched n x.pass.shows in
    let touches = subst P (sym sum) (comes g.N.RunName.mark g.N.RunName.plan x.pass x.machine x.from x.events tied b was_asked
    c.in_ok-ask.ensures.goes) in
    let Q : ℕ → Type 0 = λ n. Tied g.N.RunName.mark g.N.RunName.plan q b 0 n in
    record {
      tied = subst Q (sym sum)
          (advanced g.N.RunName.mark g.N.RunName.plan x.pass x.machine x.from x.events tied b c.in_ok-ask.ask
          q was_asked c.in_ok-ask.ensures.goes
          c.in_ok-ask.ensures.asks (c.stands.ensures c.in_ok-ask.ask c.in_ok-ask.ensures.asks) c.pass_on.ensures.mark
          (c.pass_on.ensures.shows b.touched touches));
    }

pub returns-clause-goes : goal.returns-clause-goes
returns-clause-goes g c =
    let x = c.deref_mut-task.result.now in
    let tied = rw (← c.deref_mut-task.ensures.value) at c.args.capsule.tied in
    let was_asked = rw (← c.deref_mut-task.ensures.value) at c.requires in
    let b = c.advance.new.self in
    let sum : c.in_ok-done.done ≡ x.events + b.touched = c.in_ok-done.ensures ∙ ap (λ n. x.events + n) c.touched.ensures in
    let P : ℕ → Type 0 = λ n. Comes b.touched n x.pass.shows in
    let touches = subst P (sym sum) (comes g.N.RunName.mark g.N.RunName.plan x.pass x.machine x.from x.events tied b was_asked
    c.in_ok-ask.ensures.goes) in
    rw (← c.deref_mut-task.ensures.value) (record {
      idle = was_asked;
      next = c.in_ok-ask.ask;
      asks = c.in_ok-ask.ensures.asks;
      goes = c.in_ok-ask.ensures.goes;
      count = c.in_ok-ask.ensures.count;
      children = c.advance.ensures.children;
      pass = c.pass_on.ensures.shows b.touched touches;
      from = refl;
      events = sum;
      gate = refl;
    })
