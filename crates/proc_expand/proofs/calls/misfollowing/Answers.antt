use Rattle.std.proofs.Common.{◌+◌, true, false, refl, ap, sym, ◌∙◌}
use Rattle.proc_expand.specs.Words.{is_semicolon, is_else, at}
use Rattle.proc_expand.proofs.CallFacts.{misfollows}
use Rattle.proc_expand.proofs.calls.misfollowing.Goals as goal

pub returns-then-not-is_semicolon : goal.returns-then-not-is_semicolon
returns-then-not-is_semicolon c =
    misfollows c.args.signs.now c.args.last false (is_else (at c.args.signs.now (c.args.last + 2))) c.requires
    (ap is_semicolon (sym c.sign_at.ensures) ∙ sym c.is_semicolon.ensures ∙ c.if-not-is_semicolon.true) refl

pub returns-then-is_else : goal.returns-then-is_else
returns-then-is_else c =
    misfollows c.args.signs.now c.args.last true true c.requires
    (ap is_semicolon (sym c.sign_at.ensures) ∙ sym c.is_semicolon.ensures ∙ c.if-not-is_semicolon.false)
    (ap is_else (sym c.sign_at-2.ensures) ∙ sym c.is_else.ensures ∙ c.if-is_else.true)

pub returns-else-is_else : goal.returns-else-is_else
returns-else-is_else c =
    misfollows c.args.signs.now c.args.last true false c.requires
    (ap is_semicolon (sym c.sign_at.ensures) ∙ sym c.is_semicolon.ensures ∙ c.if-not-is_semicolon.false)
    (ap is_else (sym c.sign_at-2.ensures) ∙ sym c.is_else.ensures ∙ c.if-is_else.false)
