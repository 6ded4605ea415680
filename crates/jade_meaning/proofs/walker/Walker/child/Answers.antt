use Rattle.std.proofs.Common.{sym, subst, ◌∙◌, drop, Some, None, []}
use Rattle.jade_meaning.specs.steps.Perform.{shown}
use Rattle.jade_meaning.specs.Walks.{Walk}
use Rattle.jade_meaning.specs.Walk.{upcoming, First, Bears}
use Rattle.jade_meaning.specs.steps.Frames.{course_of}
use Rattle.jade_meaning.specs.steps.Configuration.{newborn_task, later}
use Rattle.jade_meaning.proofs.Walking.{walk_of, first_known, child_first, none_first, is_child}
use Rattle.jade_meaning.proofs.walker.Walker.child.Goals as goal

pub returns-then-is_creation : goal.returns-then-is_creation
returns-then-is_creation c =
    let s = shown c.self.inside.setting in
    let t = c.self.inside.configuration in
    let i = c.self.inside in
    let v = walk_of s i.scope i.spec i.body.now i.answers.items i.done in
    let xs = drop c.self.inside.told t.pending.items in
    let course = course_of s c.self.inside.answers.items t.run in
    subst (λ (w : Walk). First (upcoming w) (Bears w (Some c.in_ok-child.child))) c.self.view_is
    (first_known c.self.invariant (Bears v (Some c.in_ok-child.child))
    (child_first v (newborn_task s t.newborn) xs (later t.stage course t.spec t.holds t.part []) c.in_ok-child.child (sym c.is_creation.ensures
    ∙ c.if-is_creation.true)
    (is_child v t.newborn c.in_ok-setting.setting.items c.in_ok-setting.setting.given c.in_ok-setting.setting.limit c.in_ok-scope.scope c.in_ok-spec.spec
    c.in_ok-child.child c.in_ok-child.ensures c.in_ok-setting.ensures.0 c.in_ok-setting.ensures.1 c.in_ok-setting.ensures.2 c.in_ok-scope.ensures
    c.in_ok-spec.ensures)))

pub returns : goal.returns
returns c =
    let s = shown c.self.inside.setting in
    let t = c.self.inside.configuration in
    let i = c.self.inside in
    let v = walk_of s i.scope i.spec i.body.now i.answers.items i.done in
    let xs = drop c.self.inside.told t.pending.items in
    let course = course_of s c.self.inside.answers.items t.run in
    subst (λ (w : Walk). First (upcoming w) (Bears w None)) c.self.view_is
    (first_known c.self.invariant (Bears v None)
    (none_first v (newborn_task s t.newborn) xs t.stage course t.spec t.holds t.part c.self.invariant.ready (sym c.is_creation.ensures
    ∙ c.if-is_creation.false)))
