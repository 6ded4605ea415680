use Rattle.std.proofs.Common.{◌+◌, suc, length, true, false, ap, sym, ◌∙◌, arith}
use Rattle.proc_expand.specs.Words.{is_comma, before}
use Rattle.proc_expand.proofs.First.{one_at}
use Rattle.proc_expand.proofs.calls.after_comma.Goals as goal

pub returns-then-is_comma : goal.returns-then-is_comma
returns-then-is_comma c =
    one_at (c.args.last + 0) c.args.last (suc (length c.args.signs.now)) (λ k. is_comma (before c.args.signs.now k)) true (omega arith)
    (λ e. omega (arith, c.requires)) (ap is_comma (sym c.sign_before.ensures) ∙ sym c.is_comma.ensures ∙ c.if-is_comma.true)

pub returns-else-is_comma : goal.returns-else-is_comma
returns-else-is_comma c =
    one_at (c.args.last + 0) c.args.last (suc (length c.args.signs.now)) (λ k. is_comma (before c.args.signs.now k)) false (omega arith)
    (λ e. omega (arith, c.requires)) (ap is_comma (sym c.sign_before.ensures) ∙ sym c.is_comma.ensures ∙ c.if-is_comma.false)
