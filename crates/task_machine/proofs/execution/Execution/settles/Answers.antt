use Rattle.std.proofs.Common.{◌≡◌, subst}
use Rattle.jade_base.specs.Specification.{kept, IsAscending}
use Rattle.jade_meaning.specs.Spread.{spread}
use Rattle.task_machine.specs.Executions.{Execution}
use Rattle.task_machine.specs.Machines.{amended_at}
use Rattle.task_machine.proofs.Sparse.{kept_spread}
use Rattle.task_machine.proofs.execution.Execution.settles.Goals as goal

pub returns : goal.returns
returns c =
    let w = c.self.inside.own in
    subst (λ (e : Execution). spread e.stage.objects (kept e.stage.spec.entries e.stage.spec.draft) ≡ amended_at e) c.self.view_is
    (kept_spread w.objects w.spec (subst (λ s. IsAscending s.entries) c.spec.ensures c.len-count.ensures.ascending))
