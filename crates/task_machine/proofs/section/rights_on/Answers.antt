use Rattle.std.proofs.Common.{◌≡◌, ℕ, ◌+◌, sym, ap, ◌∙◌, arith}
use Rattle.jade_base.specs.declared.rights.Rights.{Rights}
use Rattle.jade_base.specs.Specification.{rights_in}
use Rattle.task_machine.specs.steps.Owning.{id}
use Rattle.task_machine.proofs.Sparse.{tab_at, tab_past}
use Rattle.task_machine.proofs.section.rights_on.Goals as goal

pub returns-then-object-own-clause-rights : goal.returns-then-object-own-clause-rights
returns-then-object-own-clause-rights c =
    let w = c.args.own.now in
    let f : ℕ → Rights = λ i. rights_in w.spec.entries (id i) in
    let z : 0 + c.args.object ≡ c.args.object = omega arith in
    c.rights.ensures ∙ ap (λ s. rights_in s.entries (id c.args.object)) c.spec.ensures
    ∙ sym (tab_at f 0 w.objects c.args.object c.if-object-own.true ∙ ap f z)

pub returns-else-object-own-clause-rights : goal.returns-else-object-own-clause-rights
returns-else-object-own-clause-rights c =
    let w = c.args.own.now in
    sym (tab_past (λ i. rights_in w.spec.entries (id i)) 0 w.objects c.args.object c.if-object-own.false)
