use Rattle.std.proofs.Common.{sym, ◌∙◌, arith}
use Rattle.task_machine.proofs.Finding.{first_change, same_below, same_next, same_past}
use Rattle.task_machine.proofs.Quiet.{same_between}
use Rattle.task_machine.proofs.entries.next_amended.Goals as goal

pub returns-then-not-is_drafted-clause-none : goal.returns-then-not-is_drafted-clause-none
returns-then-not-is_drafted-clause-none c =
    same_between c.args.spec.now c.args.from.0 c.args.objects (c.is_drafted.ensures c.if-not-is_drafted.true)

pub returns-then-object-objects-clause-found : goal.returns-then-object-objects-clause-found
returns-then-object-objects-clause-found c =
    first_change c.args.spec.now c.args.from.0 c.args.objects c.place_from-first.result c.places.place c.entry.result c.draft_at-amended.result
    c.len-place-end.ensures.drafted c.len-place-end.ensures.ascending c.place_from-first.ensures c.places.invariant (omega arith) c.entry.ensures
    c.draft_at-amended.ensures (sym c.same.ensures ∙ c.if-not-same.true) c.if-object-objects.true

pub returns-then-not-same-clause-none : goal.returns-then-not-same-clause-none
returns-then-not-same-clause-none c =
    same_below c.args.spec.now c.args.from.0 c.args.objects c.place_from-first.result c.places.place c.entry.result c.len-place-end.ensures.drafted
    c.len-place-end.ensures.ascending c.place_from-first.ensures c.places.invariant c.entry.ensures (omega (arith, c.if-object-objects.false))

pub places-preserved : goal.places-preserved
places-preserved c =
    same_next c.args.spec.now c.place_from-first.result c.places.place c.entry.result c.draft_at-amended.result c.places.invariant c.entry.ensures
    c.draft_at-amended.ensures (sym c.same.ensures ∙ c.if-not-same.false)

pub returns-clause-none : goal.returns-clause-none
returns-clause-none c =
    same_past c.args.spec.now c.args.from.0 c.args.objects c.place_from-first.result c.places.place c.len-place-end.ensures.drafted
    c.place_from-first.ensures c.places.invariant (omega (arith, c.places-test.false, c.len-place-end.ensures.count))
