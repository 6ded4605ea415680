use Rattle.std.proofs.Common.{◌≡◌, drop, false, subst}
use Rattle.jade_meaning.specs.steps.Perform.{shown}
use Rattle.jade_meaning.specs.Walks.{Walk}
use Rattle.jade_meaning.specs.Walk.{upcoming, First, carried_of, is_answered}
use Rattle.jade_meaning.specs.steps.Frames.{course_of}
use Rattle.jade_meaning.specs.steps.Configuration.{newborn_task}
use Rattle.jade_meaning.proofs.Walking.{first_known, unanswered_first}
use Rattle.jade_meaning.proofs.walker.Walker.carried.Goals as goal

pub returns-clause-told : goal.returns-clause-told
returns-clause-told c =
    subst (λ (w : Walk). First (upcoming w) (λ e. carried_of e ≡ c.next_carried.result)) c.self.view_is
    (first_known c.self.invariant (λ e. carried_of e ≡ c.next_carried.result)
    (c.next_carried.ensures (shown c.self.inside.setting) c.self.inside.answers.items))

pub returns-clause-unanswered : goal.returns-clause-unanswered
returns-clause-unanswered c =
    let s = shown c.self.inside.setting in
    let t = c.self.inside.configuration in
    let xs = drop c.self.inside.told t.pending.items in
    let course = course_of s c.self.inside.answers.items t.run in
    subst (λ (w : Walk). First (upcoming w) (λ e. is_answered e ≡ false)) c.self.view_is
    (first_known c.self.invariant (λ e. is_answered e ≡ false)
    (unanswered_first (newborn_task s t.newborn) xs t.stage course t.spec t.holds t.part c.self.invariant.ready))
