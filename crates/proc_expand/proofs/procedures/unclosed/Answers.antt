use Rattle.std.proofs.Common.{suc, length, ap, sym, ◌∙◌}
use Rattle.proc_expand.specs.Words.{first, fails_at}
use Rattle.proc_expand.proofs.Heads.{fails_closed, fails_wrong, fails_never}
use Rattle.proc_expand.proofs.procedures.unclosed.Goals as goal

pub returns-in-Closed : goal.returns-in-Closed
returns-in-Closed c =
    let n = length c.args.signs.now in
    fails_closed n c.in-Closed.field-0 ∙ ap (λ e. first (suc n) (fails_at n e)) (sym c.in-Closed.is)

pub returns-in-Wrong : goal.returns-in-Wrong
returns-in-Wrong c =
    let n = length c.args.signs.now in
    fails_wrong n c.in-Wrong.place (c.requires.wrong c.in-Wrong.place c.in-Wrong.is) ∙ ap (λ e. first (suc n) (fails_at n e)) (sym c.in-Wrong.is)

pub returns-in-Never : goal.returns-in-Never
returns-in-Never c = let n = length c.args.signs.now in fails_never n ∙ ap (λ e. first (suc n) (fails_at n e)) (sym c.in-Never.is)
