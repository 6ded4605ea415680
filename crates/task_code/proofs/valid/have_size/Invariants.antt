use Rattle.std.proofs.Common.{◌≡◌, ◌+◌, ◌-◌}
use Rattle.task_code.specs.Rules.{have_size}
use Rattle.task_code.proofs.valid.have_size.Given as goal

abbrev pub invariant-members : goal.invariant-members
invariant-members l = have_size l.sizes l.first l.count l.size ≡ have_size l.sizes (l.first + l.i) (l.count - l.i) l.size
