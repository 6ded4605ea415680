use Rattle.std.proofs.Common.{◌≡◌, ◌++◌, ◌∷◌, [], w64, ◌≤◌, ap, sym, subst, ◌∙◌, length, Some, List, arith}
use Rattle.std.proofs.lemmas.Int.{to_z-of_z}
use Rattle.std.specs.Prelude.{ℤ}
use Rattle.jade_meaning.specs.steps.Perform.{shown}
use Rattle.jade_meaning.specs.Talk.{events}
use Rattle.jade_meaning.specs.steps.Frames.{course_of}
use Rattle.jade_meaning.specs.steps.Configuration.{ahead}
use Rattle.jade_meaning.specs.Walks.{Walk}
use Rattle.jade_meaning.specs.Walk.{upcoming, First, Passes}
use Rattle.jade_meaning.proofs.Walking.{answer_agrees}
use Rattle.jade_meaning.proofs.walker.Walker.answer.Goals as goal

pub invariant_of-self-in-Ok-onward : goal.invariant_of-self-in-Ok-onward
invariant_of-self-in-Ok-onward c =
    let n : c.self.inside.answers.len ≡ length c.self.inside.answers.items = omega (arith, c.self.inside.answers.ok.0) in
    let le : c.self.inside.configuration.run.used ≤ length c.self.inside.answers.items = omega (arith, n) in
    answer_agrees (shown c.self.inside.setting) c.self.inside.scope c.self.inside.spec c.self.inside.body.now c.self.inside.answers.items c.push.new.self.items
    c.self.inside.done c.in_ok-done.done c.self.inside.told c.self.inside.configuration c.in-Ok-onward.configuration c.args.value c.self.invariant
    (subst (λ (w : Walk). First (upcoming w) (Passes (Some c.args.value))) (sym c.self.view_is) c.requires)
    le (c.in-Ok.ensures.items ∙ ap (λ z. c.self.inside.answers.items ++ z ∷ []) (to_z-of_z w64 c.args.value c.ranges.value)) c.in_ok-done.ensures
    (subst (λ xs. (vs : List ℤ) → events (course_of (shown c.self.inside.setting) xs c.self.inside.configuration.run) c.self.inside.configuration.spec
    c.self.inside.configuration.holds c.self.inside.configuration.part vs ≡ ahead (shown c.self.inside.setting) xs c.in-Ok-onward.configuration 0 vs)
    c.as_slice.ensures.value c.in-Ok-onward.ensures.same) c.in-Ok-onward.ensures.ready
