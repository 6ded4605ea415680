use Rattle.std.proofs.Common.{ap, subst, ◌∙◌}
use Rattle.jade_base.specs.Specification.{settled, kept, IsAscending}
use Rattle.jade_meaning.specs.Spread.{spread}
use Rattle.task_machine.proofs.Sparse.{kept_spread}
use Rattle.task_machine.proofs.section.commit.Goals as goal

pub returns-clause-rights : goal.returns-clause-rights
returns-clause-rights c =
    let w = c.args.own.now in
    ap (λ s. spread w.objects s.entries) (c.begin.ensures ∙ ap (λ t. settled t.entries) (c.commit-spec.ensures
    ∙ ap (λ t. settled (kept t.entries t.draft)) c.replace.ensures.value))
    ∙ kept_spread w.objects w.spec (subst (λ s. IsAscending s.entries) c.spec.ensures c.len-count.ensures.ascending)
