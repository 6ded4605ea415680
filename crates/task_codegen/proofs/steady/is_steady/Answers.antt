use Rattle.std.proofs.Common.{sym, ◌∙◌}
use Rattle.jade_syntax.specs.Image.{block}
use Rattle.task_codegen.specs.Variables.{key_shown}
use Rattle.task_codegen.proofs.Steadiness.{not_steady, steady_if}
use Rattle.task_codegen.proofs.steady.is_steady.Goals as goal

pub returns-then-not-all_below : goal.returns-then-not-all_below
returns-then-not-all_below c loop =
    not_steady c.args.n (block c.args.body.now) (key_shown c.args.key.now) (sym c.all_below.ensures ∙ c.if-not-all_below.true) loop

pub returns : goal.returns
returns c loop =
    steady_if c.args.n (block c.args.body.now) (key_shown c.args.key.now) (sym c.all_below.ensures ∙ c.if-not-all_below.false) c.in_ok-any.ensures loop
