use Rattle.std.proofs.Common.{◌≡◌, sym, subst, ◌∙◌, None, List}
use Rattle.std.specs.Prelude.{ℤ}
use Rattle.jade_meaning.specs.steps.Perform.{shown}
use Rattle.jade_meaning.specs.Talk.{events}
use Rattle.jade_meaning.specs.steps.Frames.{course_of}
use Rattle.jade_meaning.specs.steps.Configuration.{ahead}
use Rattle.jade_meaning.specs.Walks.{Walk}
use Rattle.jade_meaning.specs.Walk.{upcoming, First, Passes}
use Rattle.jade_meaning.proofs.Walking.{pass_left, pass_on, not_over}
use Rattle.jade_meaning.proofs.walker.Walker.pass.Goals as goal

pub invariant_of-self : goal.invariant_of-self
invariant_of-self c =
    pass_left (shown c.self.inside.setting) c.self.inside.scope c.self.inside.spec c.self.inside.body.now c.self.inside.answers.items c.self.inside.done
    c.in_ok-done.done c.self.inside.told c.in_ok-told.told c.self.inside.configuration c.self.invariant
    (subst (λ (w : Walk). First (upcoming w) (Passes None)) (sym c.self.view_is) c.requires)
    c.in_ok-done.ensures c.in_ok-told.ensures (sym c.is_left.ensures ∙ c.if-is_left.true)

pub invariant_of-self-2 : goal.invariant_of-self-2
invariant_of-self-2 c =
    pass_on (shown c.self.inside.setting) c.self.inside.scope c.self.inside.spec c.self.inside.body.now c.self.inside.answers.items c.self.inside.done
    c.in_ok-done.done c.self.inside.told c.in_ok-told.told c.self.inside.configuration c.in_ok-configuration.configuration c.self.invariant
    (subst (λ (w : Walk). First (upcoming w) (Passes None)) (sym c.self.view_is) c.requires)
    c.in_ok-done.ensures c.in_ok-told.ensures (sym c.is_left.ensures ∙ c.if-is_left.false)
    (not_over (shown c.self.inside.setting) c.self.inside.scope c.self.inside.spec c.self.inside.body.now c.self.inside.answers.items c.self.inside.done
    c.self.inside.told c.in_ok-told.told c.self.inside.configuration c.self.invariant
    (subst (λ (w : Walk). First (upcoming w) (Passes None)) (sym c.self.view_is) c.requires) c.in_ok-told.ensures (sym c.is_left.ensures ∙ c.if-is_left.false))
    (subst (λ xs. (vs : List ℤ) → events (course_of (shown c.self.inside.setting) xs c.self.inside.configuration.run) c.self.inside.configuration.spec
    c.self.inside.configuration.holds c.self.inside.configuration.part vs ≡ ahead (shown c.self.inside.setting) xs c.in_ok-configuration.configuration 0 vs)
    c.as_slice.ensures.value c.in_ok-configuration.ensures.same) c.in_ok-configuration.ensures.ready
