use Rattle.std.proofs.Common.{◌∙◌, ◌≤◌, ap, sym, subst, arith}
use Rattle.object_shelf.specs.Clear.{clear_for}
use Rattle.object_shelf.proofs.Clearing.{left-far, left-near, left-clear}
use Rattle.object_shelf.proofs.clear.clear_left.Goals as goal

pub returns-then-was-place : goal.returns-then-was-place
returns-then-was-place c =
    λ es q lt w. w ∙ left-far c.args.mode es c.args.place (omega (arith, w, c.if-was-place.true)) ∙ ap (clear_for c.args.mode) (sym q)

pub returns-then-place-was : goal.returns-then-place-was
returns-then-place-was c =
    λ es q lt w. let one = left-clear c.args.mode es c.args.place (omega (arith, w, c.if-place-was.true)) in
    let r = ap (clear_for c.args.mode) q in
    omega (arith, one, r, w)

pub returns : goal.returns
returns c =
    λ es q lt w. c.go_on.ensures
    (subst (λ xs. c.args.place ≤ clear_for c.args.mode xs) (sym q) (left-near c.args.mode es c.args.place (omega (arith, w, c.if-was-place.false))))
