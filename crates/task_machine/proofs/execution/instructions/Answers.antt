use Rattle.std.proofs.Common.{◌<◌, length, sym, ap, subst, ◌∙◌}
use Rattle.code_meaning.specs.Meaning.{Body}
use Rattle.task_machine.proofs.Executing.{code_found}
use Rattle.task_machine.proofs.execution.instructions.Goals as goal

pub returns-clause-code : goal.returns-clause-code
returns-clause-code c =
    code_found c.args.code.now c.bodies.result.now c.args.body c.index-bodies-body.result _ c.as_slice.result.now c.bodies.ensures
    (subst (λ k. c.args.body < k) (sym (ap length c.bodies.ensures)) c.requires) c.index-bodies-body.is
    (c.as_slice.ensures.value ∙ ap (λ (b : Body). b.code) c.body.view_is)
