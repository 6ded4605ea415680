use Rattle.std.proofs.Common.{◌≡◌, ℕ, ◌+◌, sym, ap, ◌∙◌, arith}
use Rattle.jade_base.specs.declared.rights.Rights.{Rights}
use Rattle.access_spec.specs.Copies.{copied}
use Rattle.task_machine.specs.steps.Owning.{id}
use Rattle.task_machine.proofs.Sparse.{tab_at, tab_past}
use Rattle.task_machine.proofs.section.copied_for.Goals as goal

pub returns-then-object-own : goal.returns-then-object-own
returns-then-object-own c =
    let w = c.args.own.now in
    sym (tab_past (λ i. copied w.spec (id i)) 0 w.objects c.args.object.0 c.if-object-own.true)

pub returns : goal.returns
returns c =
    let w = c.args.own.now in
    let f : ℕ → Rights = λ i. copied w.spec (id i) in
    let z : 0 + c.args.object.0 ≡ c.args.object.0 = omega arith in
    c.copied.ensures ∙ ap (λ s. copied s c.args.object) c.spec.ensures
    ∙ sym (tab_at f 0 w.objects c.args.object.0 (omega (arith, c.if-object-own.false)) ∙ ap f z)
