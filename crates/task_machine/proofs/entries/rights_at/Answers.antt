use Rattle.std.proofs.Common.{arith}
use Rattle.task_machine.proofs.Commuting.{listed_get, rights_got, rights_past}
use Rattle.task_machine.proofs.Searching.{entries_ascend}
use Rattle.task_machine.proofs.entries.rights_at.Goals as goal

pub returns-then-object-objects-clause-object : goal.returns-then-object-objects-clause-object
returns-then-object-objects-clause-object c = listed_get c.args.spec.now.entries c.args.place c.entry.result c.entry.ensures

pub returns-then-object-objects-clause-rights : goal.returns-then-object-objects-clause-rights
returns-then-object-objects-clause-rights c =
    rights_got c.args.objects c.args.spec.now.entries c.args.place c.entry.result c.len-count.ensures.ascending c.entry.ensures c.if-object-objects.true

pub returns-then-object-objects-clause-ascend : goal.returns-then-object-objects-clause-ascend
returns-then-object-objects-clause-ascend c = entries_ascend c.args.spec.now.entries c.len-count.ensures.ascending

pub returns-else-object-objects-clause-object : goal.returns-else-object-objects-clause-object
returns-else-object-objects-clause-object c = listed_get c.args.spec.now.entries c.args.place c.entry.result c.entry.ensures

pub returns-else-object-objects-clause-rights : goal.returns-else-object-objects-clause-rights
returns-else-object-objects-clause-rights c =
    rights_past c.args.objects c.args.spec.now.entries c.entry.result.0.0 (omega (arith, c.if-object-objects.false))

pub returns-else-object-objects-clause-ascend : goal.returns-else-object-objects-clause-ascend
returns-else-object-objects-clause-ascend c = entries_ascend c.args.spec.now.entries c.len-count.ensures.ascending
