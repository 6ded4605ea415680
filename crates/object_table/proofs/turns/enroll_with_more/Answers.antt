use Rattle.std.proofs.Common.{rules, ℕ, ◌≡◌, ◌+◌, ◌<◌, ◌≤◌, ◌∙◌, ap, sym, subst, inr, arith}
use Rattle.schedule_core.specs.declared.steps.Seat.{Seat as Place}
use Rattle.jade_meaning.specs.Talk.{Enroll}
use Rattle.object_table.specs.Views.{View}
use Rattle.object_table.specs.Calls.{Restocked, RestockedAs, IsBusy}
use Rattle.object_table.specs.steps.Kept.{Rests, shown}
use Rattle.object_table.specs.declared.answers.Tried.{Tried}
use Rattle.object_table.specs.declared.answers.Tried.TheVariants.{Done, Busy}
use Rattle.object_table.specs.declared.task.Task.{Task}
use Rattle.object_table.proofs.Calls.{path_is, children_is, tickets_is}
use Rattle.object_table.proofs.RollCalls.{next_after, bore_after, seat_after_all}
use Rattle.object_table.proofs.turns.enroll_with_more.Goals as goal

-- a task that got tickets has its path and its children as before
same_path_after : (o : ℕ) (t u : Task) → Rests t → Rests u → Restocked o (shown t) (shown u) → u.path ≡ t.path
same_path_after o t u r q got = path_is u q ∙ ap (λ (z : Place). z.path) (seat_after_all o (shown t) (shown u) (inr got)) ∙ sym (path_is t r)

same_children_after : (o : ℕ) (t u : Task) → Rests t → Rests u → Restocked o (shown t) (shown u) → u.children ≡ t.children
same_children_after o t u r q got = children_is u q ∙ ap (λ (z : Place). z.children) (seat_after_all o (shown t) (shown u) (inr got)) ∙ sym (children_is t r)

restocked : (o : ℕ) (v w : View) (r : Tried) → r ≡ Done → RestockedAs o v r w → Restocked o v w
restocked o v w r is how = subst (λ x. RestockedAs o v x w) is how

busy : (o n : ℕ) (v w : View) (r : Tried) → r ≡ Busy n → RestockedAs o v r w → IsBusy n o v w
busy o n v w r is how = subst (λ x. RestockedAs o v x w) is how

-- with few tickets a pass shows few
few : (t : Task) → Rests t → t.tickets < 3 → (shown t).tickets ≤ 2
few t r lt = let same = tickets_is t r in omega (arith, same, lt)

rich : (o : ℕ) (v w : View) → Restocked o v w → 2 < w.tickets
rich o v w got = let more = ap (λ (z : View). z.tickets) got.after in omega (arith, more)

pub bear-requires-clause-next : goal.bear-requires-clause-next
bear-requires-clause-next c =
    let got = restocked c.args.place (shown c.args.task.now) (shown c.restock.new.task) _ c.in-Done.is c.in_ok-restock.ensures.answer in
    let next = c.requires.next in
    (next.0, next_after c.args.place (Enroll next.0 c.args.steps) (shown c.args.task.now) (shown c.restock.new.task) (inr got) next.1)

pub bear-requires-clause-rich : goal.bear-requires-clause-rich
bear-requires-clause-rich c =
    let got = restocked c.args.place (shown c.args.task.now) (shown c.restock.new.task) _ c.in-Done.is c.in_ok-restock.ensures.answer in
    subst (λ k. 2 < k) (sym (tickets_is c.restock.new.task c.in_ok-restock.ensures.rests)) (rich c.args.place (shown c.args.task.now) (shown c.restock.new.task) got)

pub bear-requires-clause-spare : goal.bear-requires-clause-spare
bear-requires-clause-spare c =
    let got = restocked c.args.place (shown c.args.task.now) (shown c.restock.new.task) _ c.in-Done.is c.in_ok-restock.ensures.answer in
    let is : c.in_ok-spare.spare ≡ c.args.task.now.path = search rules in
    is ∙ sym (same_path_after c.args.place c.args.task.now c.restock.new.task c.requires.rests c.in_ok-restock.ensures.rests got)

pub bear-requires-clause-count : goal.bear-requires-clause-count
bear-requires-clause-count c =
    let got = restocked c.args.place (shown c.args.task.now) (shown c.restock.new.task) _ c.in-Done.is c.in_ok-restock.ensures.answer in
    let is : c.args.children ≡ c.args.task.now.children + 1 = c.requires.count in
    is ∙ ap (λ k. k + 1)
    (sym (same_children_after c.args.place c.args.task.now c.restock.new.task c.requires.rests c.in_ok-restock.ensures.rests got))

pub returns-in-Done-clause-answer : goal.returns-in-Done-clause-answer
returns-in-Done-clause-answer c =
    let got = restocked c.args.place (shown c.args.task.now) (shown c.restock.new.task) _ c.in-Done.is c.in_ok-restock.ensures.answer in (
      bore_after c.args.place c.args.steps (shown c.args.task.now) (shown c.restock.new.task) _ (inr got) c.bear.ensures.done,
      record { stocked = shown c.restock.new.task; got = inr (few c.args.task.now c.requires.rests c.requires.poor, got); one = c.bear.ensures.spent },
    )

pub returns-in-Busy-clause-answer : goal.returns-in-Busy-clause-answer
returns-in-Busy-clause-answer c = (
  few c.args.task.now c.requires.rests c.requires.poor,
  busy c.args.place _ (shown c.args.task.now) (shown c.restock.new.task) _ c.in-Busy.is c.in_ok-restock.ensures.answer,
)
