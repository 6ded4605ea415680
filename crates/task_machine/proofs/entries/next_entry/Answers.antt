use Rattle.std.proofs.Common.{arith}
use Rattle.task_machine.proofs.Finding.{first_entry, free_below, free_past}
use Rattle.task_machine.proofs.entries.next_entry.Goals as goal

pub returns-then-object-objects-clause-found : goal.returns-then-object-objects-clause-found
returns-then-object-objects-clause-found c =
    first_entry c.args.spec.now.entries c.args.from.0 c.args.objects c.place_from-place.result c.entry.result c.len.ensures.ascending
    c.place_from-place.ensures c.entry.ensures c.if-object-objects.true

pub returns-else-object-objects-clause-none : goal.returns-else-object-objects-clause-none
returns-else-object-objects-clause-none c =
    free_below c.args.spec.now.entries c.args.from.0 c.args.objects c.place_from-place.result c.entry.result c.len.ensures.ascending
    c.place_from-place.ensures c.entry.ensures (omega (arith, c.if-object-objects.false))

pub returns-else-place-len-clause-none : goal.returns-else-place-len-clause-none
returns-else-place-len-clause-none c =
    free_past c.args.spec.now.entries c.args.from.0 c.args.objects c.place_from-place.result c.place_from-place.ensures
    (omega (arith, c.if-place-len.false, c.len.ensures.count))
