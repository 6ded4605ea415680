use Rattle.std.proofs.Common.{◌≡◌, ◌+◌, ◌-◌, ap, sym, ◌∙◌, refl, arith}
use Rattle.jade_meaning.specs.Course.{assigned}
use Rattle.jade_meaning.specs.steps.Scopes.{in_scope}
use Rattle.jade_meaning.proofs.Scoping.{assigned_here}
use Rattle.jade_meaning.proofs.scope.Scope.assign.Goals as goal

pub returns-then-same_name : goal.returns-then-same_name
returns-then-same_name c =
    let bs = c.loop-left.self-inside.bounds.items in
    let i = c.loop-left.left - 1 in
    let b = c.index-bound.result.now in
    let next : i + 1 ≡ c.loop-left.left = omega arith in
    assigned_here c.args.name.now c.args.value bs i c.loop-left.left b _ next c.loop-left.invariant.within c.index-bound.ensures refl refl
    (sym c.same_name.ensures ∙ c.if-same_name.true) c.loop-left.invariant.passed
    ∙ ap (λ v. assigned c.args.name.now c.args.value (in_scope v.items)) c.loop-left.invariant.same ∙ ap (assigned c.args.name.now c.args.value) c.self.view_is
