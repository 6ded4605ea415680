use Rattle.std.proofs.Common.{◌∙◌, ◌≤◌, ap, sym, subst, arith}
use Rattle.std.specs.Prelude.{slice_index_or}
use Rattle.object_shelf.specs.Shelves.{conflicts}
use Rattle.object_shelf.specs.Clear.{clear_for}
use Rattle.object_shelf.proofs.Clearing.{clear-stops, clear-within, entered-far, entered-near, entered-clear, inserted-at}
use Rattle.object_shelf.proofs.clear.clear_entered.Goals as goal

pub returns-then-was-place : goal.returns-then-was-place
returns-then-was-place c =
    λ es e q le w. w ∙ entered-far c.args.mode es c.args.place e (omega (arith, w, c.if-was-place.true)) le ∙ ap (clear_for c.args.mode) (sym q)

pub returns-then-conflicts : goal.returns-then-conflicts
returns-then-conflicts c =
    λ es e q le w. clear-stops c.args.mode c.args.rows.now.items c.args.place c.index.result.now
    (subst (λ xs. c.args.place ≤ clear_for c.args.mode xs) (sym q) (entered-near c.args.mode es c.args.place e (omega (arith, w, c.if-was-place.false)) le))
    c.requires c.index.ensures (sym c.conflicts.ensures ∙ c.if-conflicts.true)

pub returns-then-was-len : goal.returns-then-was-len
returns-then-was-len c =
    λ es e q le w. let own = inserted-at es c.args.place e c.index.result.now le
    (c.index.ensures ∙ ap (λ xs. slice_index_or xs c.args.place c.index.result.now) q) in
    let clear = entered-clear c.args.mode es c.args.place e (omega (arith, w, c.if-was-place.false)) le
    (ap (conflicts c.args.mode) (sym own) ∙ sym c.conflicts.ensures ∙ c.if-conflicts.false) in
    let r = ap (clear_for c.args.mode) q in
    omega (arith, clear, r, w)

pub returns-else-was-len : goal.returns-else-was-len
returns-else-was-len c =
    λ es e q le w. let own = inserted-at es c.args.place e c.index.result.now le
    (c.index.ensures ∙ ap (λ xs. slice_index_or xs c.args.place c.index.result.now) q) in
    let clear = entered-clear c.args.mode es c.args.place e (omega (arith, w, c.if-was-place.false)) le
    (ap (conflicts c.args.mode) (sym own) ∙ sym c.conflicts.ensures ∙ c.if-conflicts.false) in
    let r = ap (clear_for c.args.mode) q in
    let most = clear-within c.args.mode c.args.rows.now.items in
    absurd (omega (arith, clear, r, w, most, c.len.ensures, c.if-was-len.false))
