use Rattle.std.proofs.Common.{ap, ◌∙◌}
use Rattle.jade_base.specs.Specification.{settled}
use Rattle.jade_meaning.specs.Course.{Amending}
use Rattle.task_machine.specs.steps.Owning.{copy_spread}
use Rattle.task_machine.proofs.Sparse.{settled_copy}
use Rattle.task_machine.proofs.section.amend.Goals as goal

pub returns-clause-draft : goal.returns-clause-draft
returns-clause-draft c =
    ap (λ s. Amending (copy_spread c.args.own.now.objects s)) (c.begin.ensures
    ∙ ap (λ t. settled t.entries) (c.abandon-spec.ensures ∙ ap (λ t. settled t.entries) c.replace.ensures.value))
    ∙ ap Amending (settled_copy c.args.own.now.objects c.args.own.now.spec.entries)
