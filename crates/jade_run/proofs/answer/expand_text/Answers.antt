use Rattle.std.proofs.Common.{refl}
use Rattle.std.specs.Prelude.{Ok}
use Rattle.jade_run.specs.declared.status.Status.TheVariants.{Good}
use Rattle.jade_run.proofs.Calls.{refused_expanded}
use Rattle.jade_run.proofs.Given.{itself_expanded, text_expanded}
use Rattle.jade_run.proofs.answer.expand_text.Goals as goal

pub returns-in-Err : goal.returns-in-Err
returns-in-Err c = refused_expanded c.args.text.now c.in-Err.error c.not_read.result c.not_read.ensures c.in-Err.ensures.refused

pub returns-in-Itself : goal.returns-in-Itself
returns-in-Itself c =
    itself_expanded c.args.text.now c.in-Itself._tokens c.written.result (rw c.in-Itself.is at c.in-Ok.ensures.standing) c.written.ensures.text
    c.written.ensures.status

pub returns-in-Expanded : goal.returns-in-Expanded
returns-in-Expanded c =
    text_expanded c.args.text.now c.into_text.result.items c.in-Expanded.expanded (Ok (record { text = c.into_text.result; status = Good })) (rw c.in-Expanded.is at c.in-Ok.ensures.standing)
    c.into_text.ensures refl refl
