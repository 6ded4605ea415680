use Rattle.std.proofs.Common.{◌≡◌, ◌≤◌, ◌<◌, ℕ, List, ◌∙◌, ap, sym, subst, length, true, arith}
use Rattle.object_shelf.specs.declared.queue.Entry.{Entry}
use Rattle.object_shelf.specs.Shelves.{place_in, takes_out}
use Rattle.object_shelf.specs.Order.{paths, fits, is_ordered}
use Rattle.task_roll.specs.Order.{fits_at}
use Rattle.object_shelf.proofs.Entries.{entered-into}
use Rattle.object_shelf.proofs.Order.{fits-there, fits-past, fitted-in, fitted-out, entered-ordered}
use Rattle.object_shelf.proofs.queue.enter_in.Goals as goal

there : (p k : List ℕ) (es : List Entry) (n : ℕ) → is_ordered es ≡ true → n ≡ place_in p es → n < length es → fits_at n k (paths es) ≡ fits p k es
there p k es n o q lt = ap (λ m. fits_at m k (paths es)) q ∙ fits-there p k es o (subst (λ m. m < length es) q lt)

pub returns-then-place-len-clause-done : goal.returns-then-place-len-clause-done
returns-then-place-len-clause-done c =
    let es = c.args.rows.now.items in
    fitted-out c.args.parent.now c.args.child c.args.rights es
    (fits-past c.args.parent.now c.args.child es
    (subst (λ m. length es ≤ m) c.entry_place-place.ensures (omega (arith, c.len.ensures, c.if-place-len.true))))

pub returns-then-not-child_fits-clause-done : goal.returns-then-not-child_fits-clause-done
returns-then-not-child_fits-clause-done c =
    let es = c.args.rows.now.items in
    fitted-out c.args.parent.now c.args.child c.args.rights es
    (sym (there c.args.parent.now c.args.child es c.entry_place-place.result c.requires.ordered c.entry_place-place.ensures
    (omega (arith, c.len.ensures, c.if-place-len.false))) ∙ sym c.child_fits.ensures ∙ c.if-not-child_fits.true)

pub returns-clause-done : goal.returns-clause-done
returns-clause-done c =
    let p = c.args.parent.now in
    let k = c.args.child in
    let es = c.args.rows.now.items in
    let lt : c.entry_place-place.result < length es = omega (arith, c.len.ensures, c.if-place-len.false) in
    let f : fits p k es ≡ true = sym (there p k es c.entry_place-place.result c.requires.ordered c.entry_place-place.ensures lt) ∙ sym c.child_fits.ensures ∙
    c.if-not-child_fits.false in
    c.in_ok-insert.ensures.done ∙ entered-into p k c.args.rights es c.entry_place-place.result c.index.result.now c.in_ok-entry.entry
    c.entry_place-place.ensures lt
    c.index.ensures c.in_ok-entry.ensures ∙ sym (fitted-in p k c.args.rights es f)

pub returns-clause-order : goal.returns-clause-order
returns-clause-order c =
    let p = c.args.parent.now in
    let k = c.args.child in
    let es = c.args.rows.now.items in
    let lt : c.entry_place-place.result < length es = omega (arith, c.len.ensures, c.if-place-len.false) in
    let f : fits p k es ≡ true = sym (there p k es c.entry_place-place.result c.requires.ordered c.entry_place-place.ensures lt) ∙ sym c.child_fits.ensures ∙
    c.if-not-child_fits.false in
    ap is_ordered (returns-clause-done c ∙ fitted-in p k c.args.rights es f) ∙ entered-ordered p k c.args.rights es c.requires.ordered f

pub returns-clause-clears : goal.returns-clause-clears
returns-clause-clears c =
    let es = c.args.rows.now.items in
    let lt : c.entry_place-place.result < length es = omega (arith, c.len.ensures, c.if-place-len.false) in
    c.entered.ensures es c.in_ok-entry.entry c.in_ok-insert.ensures.done (omega (arith, lt))
    (ap (λ (e : Entry). takes_out e.hold) c.in_ok-entry.ensures) c.requires.clear
