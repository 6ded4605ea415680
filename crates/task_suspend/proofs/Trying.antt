-- What a try has done, by what it answered.
use Rattle.std.proofs.Common.{◌≡◌, ℕ, true, Some, sym, ap, subst, ◌∙◌}
use Rattle.atomic_table.specs.Seated.{TableId}
use Rattle.jade_meaning.specs.Plan.{RunPlan}
use Rattle.schedule_core.specs.declared.steps.Seat.{Seat}
use Rattle.object_table.specs.Views.{View}
use Rattle.object_table.specs.Calls.{Pass, Did, IsBusy, Bore, TriedAs, EnrolledAs}
use Rattle.object_table.specs.declared.answers.Tried.{Tried}
use Rattle.object_table.specs.declared.answers.Tried.TheVariants as tried
use Rattle.task_machine.specs.Asks.{Asking}
use Rattle.task_suspend.specs.Ties.{Tied}

pub numbered : (mark : TableId) (plan : RunPlan) (p : Pass) (a : Asking) (from events from' events' : ℕ) → Tied mark plan p a from events
    → from' ≡ from → events' ≡ events → Tied mark plan p a from' events'
numbered mark plan p a from events from' events' t e f =
    let P : ℕ → Type 0 = λ n. Tied mark plan p a n events in
    let Q : ℕ → Type 0 = λ n. Tied mark plan p a from' n in
    subst Q (sym f) (subst P (sym e) t)

module _ (o : ℕ) (v w : View) (r : Tried) where
  pub tried_done : r ≡ tried.Done → TriedAs o v r w → Did o v.held v w
  tried_done e h = let P : Tried → Type 0 = λ x. TriedAs o v x w in subst P e h

  pub tried_busy : (n : ℕ) → r ≡ tried.Busy n → TriedAs o v r w → IsBusy n o v w
  tried_busy n e h = let P : Tried → Type 0 = λ x. TriedAs o v x w in subst P e h

module _ (o steps : ℕ) (v w : View) (r : Tried) where
  pub enrolled_done : r ≡ tried.Done → EnrolledAs o steps v r w → Bore steps v w
  enrolled_done e h = let P : Tried → Type 0 = λ x. EnrolledAs o steps v x w in (subst P e h).0

  pub enrolled_busy : (n : ℕ) → r ≡ tried.Busy n → EnrolledAs o steps v r w → IsBusy n o v w
  enrolled_busy n e h = let P : Tried → Type 0 = λ x. EnrolledAs o steps v x w in (subst P e h).1

-- after a creation the task is live, and the child has no pass
pub bore_live : (steps : ℕ) (v w : View) → Bore steps v w → v.live ≡ true → w.live ≡ true
bore_live steps v w k live = ap (λ (x : View). x.live) k.after ∙ live

pub bore_kid : (steps : ℕ) (v w : View) → Bore steps v w → (kid : Seat) × (w.unborn ≡ Some kid)
bore_kid steps v w k = (k.kid, ap (λ (x : View). x.unborn) k.after)
