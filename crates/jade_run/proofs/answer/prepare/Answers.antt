use Rattle.std.proofs.Common.{sym, ◌∙◌}
use Rattle.jade_run.specs.steps.Homes.{home_of}
use Rattle.jade_run.proofs.Preparing.{refused_settled, miscounted_settled}
use Rattle.jade_run.proofs.answer.prepare.Goals as goal

pub returns-in-Err : goal.returns-in-Err
returns-in-Err c = refused_settled c.args.text.now c.args.numbers.now c.in-Err.error _ _ c.in_ok-answer-in-Err.ensures c.in-Err.ensures.refused

pub returns-then-got-wanted : goal.returns-then-got-wanted
returns-then-got-wanted c =
    miscounted_settled c.args.text.now c.args.numbers.now _ _ c.in-Ok.good.0.program (home_of c.in-Ok.good.1) _ _ c.in_ok-answer.ensures.text
    c.in_ok-answer.ensures.status c.in-Ok.ensures.good c.inputs-wanted.ensures c.count_of-got.ensures c.if-got-wanted.true

pub returns : goal.returns
returns c = (c.in-Ok.ensures.good, sym c.count_of-got.ensures ∙ c.if-got-wanted.false ∙ c.inputs-wanted.ensures)
