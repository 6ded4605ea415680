use Rattle.std.proofs.Common.{◌≡◌, ◌<◌, ◌≤◌, ◌∙◌, ◌++◌, ◌∷◌, [], List, ℕ, sym, ap, subst, length, true, None, arith}
use Rattle.std.specs.List.{insert}
use Rattle.task_roll.specs.declared.note.PartNote.{PartNote}
use Rattle.task_roll.specs.Order.{is_ordered, place_among, entered, fits, fits_at}
use Rattle.task_roll.specs.Rolls.{on_roll, noting}
use Rattle.task_roll.proofs.InOrder.{entered-ordered, fits-there, fits-past}
use Rattle.task_roll.proofs.Rolls.{entered-insert, is-enrolled, not-enrolled}
use Rattle.task_roll.proofs.roll.enroll_in.Goals as goal

there : (p k : List ℕ) (es : List (List ℕ)) (n : ℕ) → is_ordered es ≡ true → n ≡ place_among p es → n < length es → fits_at n k es ≡ fits p k es
there p k es n o q lt = ap (λ m. fits_at m k es) q ∙ fits-there p k es o (subst (λ m. m < length es) q lt)

pub returns-then-place-len-clause-done : goal.returns-then-place-len-clause-done
returns-then-place-len-clause-done c =
    let p = c.args.parent.now in
    let es = c.args.live.now.items in
    not-enrolled p c.args.children c.args.steps es c.args.notes.now.items (fits-past p (p ++ c.args.children ∷ []) es
    (subst (λ n. length es ≤ n) c.place_in-place.ensures (omega (arith, c.len.ensures, c.if-place-len.true))))

pub returns-then-not-child_fits-clause-done : goal.returns-then-not-child_fits-clause-done
returns-then-not-child_fits-clause-done c =
    let p = c.args.parent.now in
    let es = c.args.live.now.items in
    let k = p ++ c.args.children ∷ [] in
    let n = c.place_in-place.result in
    not-enrolled p c.args.children c.args.steps es c.args.notes.now.items
    (sym (there p k es n c.requires.ordered c.place_in-place.ensures (omega (arith, c.len.ensures, c.if-place-len.false))) ∙
    ap (λ x. fits_at n x es) (sym c.in_ok-child.ensures) ∙ sym c.child_fits.ensures ∙ c.if-not-child_fits.true)

pub returns-clause-done : goal.returns-clause-done
returns-clause-done c =
    let p = c.args.parent.now in
    let es = c.args.live.now.items in
    let k = p ++ c.args.children ∷ [] in
    let n = c.place_in-place.result in
    let lt : n < length es = omega (arith, c.len.ensures, c.if-place-len.false) in
    let f : fits p k es ≡ true = sym (there p k es n c.requires.ordered c.place_in-place.ensures lt) ∙ ap (λ x. fits_at n x es) (sym c.in_ok-child.ensures) ∙
    sym c.child_fits.ensures ∙ c.if-not-child_fits.false in
    let put = c.put.ensures ∙ ap (λ xs. insert xs n c.in_ok-child.child) c.in_ok-make_room.ensures.rows ∙ ap (λ x. insert es n x) c.in_ok-child.ensures ∙
    ap (λ m. insert es m k) c.place_in-place.ensures ∙ entered-insert p k es (subst (λ m. m < length es) c.place_in-place.ensures lt) in
    ap (λ (ps : List (List ℕ)). on_roll ps c.push.new.notes.items) put ∙
    ap (λ (ns : List PartNote). on_roll (entered p k es) ns) (c.push.ensures.notes ∙
    ap (λ ns. noting (record { path = c.in_ok-path.path; children = c.args.children; steps = c.args.steps; blame = None }) ns) c.in_ok-make_room.ensures.notes ∙
    ap (λ (q : List ℕ). noting (record { path = q; children = c.args.children; steps = c.args.steps; blame = None }) c.args.notes.now.items)
    c.in_ok-path.ensures) ∙
    is-enrolled p c.args.children c.args.steps es c.args.notes.now.items f

pub returns-clause-order : goal.returns-clause-order
returns-clause-order c =
    let p = c.args.parent.now in
    let es = c.args.live.now.items in
    let k = p ++ c.args.children ∷ [] in
    let n = c.place_in-place.result in
    let lt : n < length es = omega (arith, c.len.ensures, c.if-place-len.false) in
    let f : fits p k es ≡ true = sym (there p k es n c.requires.ordered c.place_in-place.ensures lt) ∙ ap (λ x. fits_at n x es) (sym c.in_ok-child.ensures) ∙
    sym c.child_fits.ensures ∙ c.if-not-child_fits.false in
    ap is_ordered (c.put.ensures ∙ ap (λ xs. insert xs n c.in_ok-child.child) c.in_ok-make_room.ensures.rows ∙ ap (λ x. insert es n x) c.in_ok-child.ensures ∙
    ap (λ m. insert es m k) c.place_in-place.ensures ∙ entered-insert p k es (subst (λ m. m < length es) c.place_in-place.ensures lt)) ∙
    entered-ordered p k es c.requires.ordered f
