use Rattle.std.proofs.Common.{◌<◌, ◌≤◌, ◌∙◌, List, ℕ, ap, subst, length, arith}
use Rattle.std.specs.Prelude.{slice_index_or}
use Rattle.std.specs.List.{remove}
use Rattle.task_roll.specs.declared.note.PartNote.{PartNote}
use Rattle.task_roll.specs.Order.{is_ordered, place_among, without}
use Rattle.task_roll.specs.Rolls.{on_roll, noting}
use Rattle.task_roll.proofs.InOrder.{without-ordered}
use Rattle.task_roll.proofs.Rolls.{without-remove, at-place, among-place, not-among-place, is-resigned, not-resigned}
use Rattle.task_roll.proofs.roll.resign_in.Goals as goal

pub returns-then-place-len-clause-done : goal.returns-then-place-len-clause-done
returns-then-place-len-clause-done c =
    not-resigned c.args.path.now c.args.children c.args.steps c.args.blame c.args.live.now.items c.args.notes.now.items
    (not-among-place c.args.path.now c.args.live.now.items
    (subst (λ n. length c.args.live.now.items ≤ n) c.place_in-place.ensures (omega (arith, c.len.ensures, c.if-place-len.true))))

pub returns-clause-done : goal.returns-clause-done
returns-clause-done c =
    let p = c.args.path.now in
    let es = c.args.live.now.items in
    let at = c.place_in-place.ensures in
    let lt : place_among p es < length es = subst (λ n. n < length es) at (omega (arith, c.len.ensures, c.if-place-len.false)) in
    let out = c.take_out-path.ensures.rest ∙ ap (λ n. remove es n) at ∙ without-remove p es lt in
    let own = at-place p c.take_out-path.result es lt (c.take_out-path.ensures.row ∙ ap (λ n. slice_index_or es n c.take_out-path.result) at) in
    ap (λ (ps : List (List ℕ)). on_roll ps c.push.new.notes.items) out ∙
    ap (λ (ns : List PartNote). on_roll (without p es) ns) (c.push.ensures.notes ∙ ap (λ (q : List ℕ).
    noting (record { path = q; children = c.args.children; steps = c.args.steps; blame = c.args.blame }) c.args.notes.now.items) own) ∙
    is-resigned p c.args.children c.args.steps c.args.blame es c.args.notes.now.items (among-place p es lt)

pub returns-clause-order : goal.returns-clause-order
returns-clause-order c =
    let p = c.args.path.now in
    let es = c.args.live.now.items in
    let at = c.place_in-place.ensures in
    let lt : place_among p es < length es = subst (λ n. n < length es) at (omega (arith, c.len.ensures, c.if-place-len.false)) in
    ap is_ordered (c.take_out-path.ensures.rest ∙ ap (λ n. remove es n) at ∙ without-remove p es lt) ∙ without-ordered p es c.requires.ordered
