use Rattle.std.proofs.Common.{◌∙◌, ◌<◌, ◌≤◌, ap, sym, subst, length, arith}
use Rattle.std.specs.Prelude.{slice_index_or}
use Rattle.object_shelf.specs.Shelves.{conflicts}
use Rattle.object_shelf.specs.Clear.{clear_for}
use Rattle.object_shelf.proofs.Clearing.{clear-stops, clear-goes, changed-far, changed-near, changed-clear, set-at}
use Rattle.object_shelf.proofs.clear.clear_changed.Goals as goal

pub returns-then-was-place : goal.returns-then-was-place
returns-then-was-place c =
    λ es e q w. w ∙ changed-far c.args.mode es c.args.place e (omega (arith, w, c.if-was-place.true)) ∙ ap (clear_for c.args.mode) (sym q)

pub returns-then-conflicts : goal.returns-then-conflicts
returns-then-conflicts c =
    λ es e q w. clear-stops c.args.mode c.args.rows.now.items c.args.place c.index.result.now
    (subst (λ xs. c.args.place ≤ clear_for c.args.mode xs) (sym q) (changed-near c.args.mode es c.args.place e (omega (arith, w, c.if-was-place.false))))
    c.requires c.index.ensures (sym c.conflicts.ensures ∙ c.if-conflicts.true)

pub returns-then-place-was : goal.returns-then-place-was
returns-then-place-was c =
    λ es e q w. let own = set-at es c.args.place e c.index.result.now
    (subst (λ xs. c.args.place < length xs) q c.requires) (c.index.ensures ∙ ap (λ xs. slice_index_or xs c.args.place c.index.result.now) q) in
    w ∙ changed-clear c.args.mode es c.args.place e (omega (arith, w, c.if-place-was.true))
    (ap (conflicts c.args.mode) (sym own) ∙ sym c.conflicts.ensures ∙ c.if-conflicts.false) ∙ ap (clear_for c.args.mode) (sym q)

pub returns : goal.returns
returns c =
    λ es e q w. c.go_on.ensures (clear-goes c.args.mode c.args.rows.now.items c.args.place c.index.result.now
    (subst (λ xs. c.args.place ≤ clear_for c.args.mode xs) (sym q) (changed-near c.args.mode es c.args.place e (omega (arith, w, c.if-was-place.false))))
    c.requires c.index.ensures (sym c.conflicts.ensures ∙ c.if-conflicts.false))
