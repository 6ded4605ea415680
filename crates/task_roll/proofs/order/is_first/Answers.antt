use Rattle.std.proofs.Common.{◌∙◌, ap, sym, arith}
use Rattle.jade_base.specs.Places.{same_path}
use Rattle.task_roll.proofs.InOrder.{first-found}
use Rattle.task_roll.proofs.order.is_first.Goals as goal

pub returns : goal.returns
returns g c is =
    first-found g.T.OnPath.task c.args.path.now c.args.rows.now.items c.index.result.now (omega (arith, c.len.ensures, c.if-len-eq0.false)) c.index.ensures
    (ap (λ q. same_path c.args.path.now q) (sym c.path.ensures) ∙ ap (λ q. same_path q c.path.result.now) (sym c.numbers.ensures.value)
    ∙ ap (λ q. same_path c.numbers.result.now q) (sym c.numbers-2.ensures.value) ∙ sym c.are_same.ensures ∙ is)
