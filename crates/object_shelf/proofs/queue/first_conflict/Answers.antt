use Rattle.std.proofs.Common.{◌≡◌, ◌∙◌, ◌<◌, ◌≤◌, subst, sym, ap, arith, None, Some, MatchOption}
use Rattle.std.specs.Prelude.{slice_get}
use Rattle.object_shelf.specs.Clear.{clear_for}
use Rattle.object_shelf.proofs.Clearing.{blocker-clear, blocker-none}
use Rattle.object_shelf.proofs.queue.first_conflict.Goals as goal

pub returns-then-first-place : goal.returns-then-first-place
returns-then-first-place c =
    let n = c.args.place in
    let m = c.args.mode in
    let es = c.args.rows.now.items in
    let first = c.until-first.ensures es c.requires.clear in
    let lt : clear_for m es < n = omega (arith, first, c.if-first-place.true) in
    subst (λ x. MatchOption c.entry_at.result (x ≡ None) (λ e. x ≡ Some e.now))
    (ap (λ k. slice_get es k) first ∙ sym (blocker-clear n m es lt)) c.entry_at.ensures

pub returns : goal.returns
returns c =
    let n = c.args.place in
    let m = c.args.mode in
    let es = c.args.rows.now.items in
    let first = c.until-first.ensures es c.requires.clear in
    let le : n ≤ clear_for m es = omega (arith, first, c.if-first-place.false) in
    blocker-none n m es le
