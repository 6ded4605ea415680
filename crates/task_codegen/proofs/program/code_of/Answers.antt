use Rattle.task_codegen.proofs.Whole.{rules_kept}
use Rattle.task_codegen.proofs.program.code_of.Goals as goal

pub of-requires : goal.of-requires
of-requires c =
    let p = c.args.checked.now in
    rules_kept p.program c.program-program.result.now _ _ _ c.program-program.ensures.program c.in_ok-bodies.ensures c.inputs-inputs.ensures
    c.in_ok-sizes.ensures
    (c.keeps_rules.ensures p.program p.stands c.program-program.ensures.checked)
