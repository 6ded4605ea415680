use Rattle.std.proofs.Common.{arith, refl, sym, ◌∙◌}
use Rattle.proc_expand.proofs.FewTokens.{few_tokens}
use Rattle.jade_run.specs.Standing.{expansion}
use Rattle.jade_run.proofs.Given.{improper_for}
use Rattle.jade_run.proofs.standing.standing_of.Goals as goal

pub expand-requires : goal.expand-requires
expand-requires c =
    let few = few_tokens c.args.text.now c.in-Ok.tokens c.in-Ok.ensures.whole in
    let within = c.requires in
    record { few = omega (arith, few, within) }

pub returns-in-Ok-expand-clause-standing : goal.returns-in-Ok-expand-clause-standing
returns-in-Ok-expand-clause-standing c =
    expansion c.in-Ok.tokens c.in-Ok.ensures.whole (sym c.has_proc.ensures ∙ c.if-not-has_proc.false) c.in-Ok-expand.expanded c.in-Ok-expand.ensures.expanded refl refl

pub returns-clause-refused : goal.returns-clause-refused
returns-clause-refused c =
    improper_for c.args.text.now c.in-Ok.tokens c.in-Err-expand.error c.told.result c.in-Ok.ensures.whole (sym c.has_proc.ensures ∙ c.if-not-has_proc.false)
    c.in-Err-expand.ensures.refused c.told.ensures
