use Rattle.task_machine.proofs.Sparse.{below_all}
use Rattle.task_machine.proofs.section.all_rights.Goals as goal

pub returns : goal.returns
returns c = below_all c.args.objects c.objects.object c.objects.spec.entries c.objects-test.false c.objects.invariant
